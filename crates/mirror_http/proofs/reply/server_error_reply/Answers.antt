use Rattle.std.proofs.Common.{◌∙◌}
use Rattle.std.proofs.lemmas.Result.{IfOk-weaker}
use Rattle.mirror_http.proofs.Statuses.{server_error_is}
use Rattle.mirror_http.proofs.reply.server_error_reply.Goals as goal

pub returns : goal.returns
returns c = IfOk-weaker c.empty_reply.result _ _ (λ reply is. is ∙ server_error_is) c.empty_reply.ensures
