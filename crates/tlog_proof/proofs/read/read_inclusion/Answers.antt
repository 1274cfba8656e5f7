use Rattle.std.proofs.lemmas.Result.{IfOk-from_err}
use Rattle.tlog_proof.proofs.read.read_inclusion.Goals as goal

pub returns-in_err-root-clause-sound : goal.returns-in_err-root-clause-sound
returns-in_err-root-clause-sound c = IfOk-from_err c.from_residual.result _ c.from_residual.ensures.0

pub returns-in_err-leaf-clause-sound : goal.returns-in_err-leaf-clause-sound
returns-in_err-leaf-clause-sound c = let exit = c.from_residual-in_err-leaf in IfOk-from_err exit.result _ exit.ensures.0

pub returns-in_err-path-clause-sound : goal.returns-in_err-path-clause-sound
returns-in_err-path-clause-sound c = let exit = c.from_residual-in_err-path in IfOk-from_err exit.result _ exit.ensures.0
