use Rattle.std.proofs.lemmas.Result.{IfOk-from_err}
use Rattle.tlog_proof.proofs.read.read_consistency.Goals as goal

pub returns-in_err-first_root-clause-sound : goal.returns-in_err-first_root-clause-sound
returns-in_err-first_root-clause-sound c = IfOk-from_err c.from_residual.result _ c.from_residual.ensures.0

pub returns-in_err-second_root-clause-sound : goal.returns-in_err-second_root-clause-sound
returns-in_err-second_root-clause-sound c = let exit = c.from_residual-in_err-second_root in IfOk-from_err exit.result _ exit.ensures.0

pub returns-in_err-path-clause-sound : goal.returns-in_err-path-clause-sound
returns-in_err-path-clause-sound c = let exit = c.from_residual-in_err-path in IfOk-from_err exit.result _ exit.ensures.0
