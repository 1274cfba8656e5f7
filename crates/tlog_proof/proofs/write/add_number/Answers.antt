use Rattle.std.proofs.lemmas.Result.{IfOk-from_err}
use Rattle.tlog_proof.proofs.write.add_number.Goals as goal

pub returns-in_err-push_str : goal.returns-in_err-push_str
returns-in_err-push_str c = IfOk-from_err c.from_residual.result _ c.from_residual.ensures.0

pub returns-in_err-push_number : goal.returns-in_err-push_number
returns-in_err-push_number c = let exit = c.from_residual-in_err-push_number in IfOk-from_err exit.result _ exit.ensures.0
