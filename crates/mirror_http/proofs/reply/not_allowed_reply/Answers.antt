use Rattle.std.proofs.Common.{◌∙◌}
use Rattle.std.proofs.lemmas.Result.{IfOk-weaker}
use Rattle.mirror_http.proofs.Statuses.{not_allowed_is}
use Rattle.mirror_http.proofs.reply.not_allowed_reply.Goals as goal

pub returns : goal.returns
returns c = IfOk-weaker c.empty_reply.result _ _ (λ reply is. is ∙ not_allowed_is) c.empty_reply.ensures
