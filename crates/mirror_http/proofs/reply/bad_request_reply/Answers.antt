use Rattle.std.proofs.Common.{◌∙◌}
use Rattle.std.proofs.lemmas.Result.{IfOk-weaker}
use Rattle.mirror_http.proofs.Statuses.{bad_request_is}
use Rattle.mirror_http.proofs.reply.bad_request_reply.Goals as goal

pub returns : goal.returns
returns c = IfOk-weaker c.empty_reply.result _ _ (λ reply is. is ∙ bad_request_is) c.empty_reply.ensures
