use Rattle.std.proofs.lemmas.Result.{IfOk-from_err}
use Rattle.signed_note.proofs.line.SignatureLine.copy.Goals as goal

pub returns-in_err-from_str : goal.returns-in_err-from_str
returns-in_err-from_str c = IfOk-from_err c.from_residual.result _ c.from_residual.ensures.0

pub returns-in_err-from_slice : goal.returns-in_err-from_slice
returns-in_err-from_slice c = let exit = c.from_residual-in_err-from_slice in IfOk-from_err exit.result _ exit.ensures.0
