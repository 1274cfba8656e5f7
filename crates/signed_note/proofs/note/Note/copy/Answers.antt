use Rattle.std.proofs.lemmas.Result.{IfOk-from_err}
use Rattle.signed_note.proofs.note.Note.copy.Goals as goal

pub returns-in_err-copy : goal.returns-in_err-copy
returns-in_err-copy c = IfOk-from_err c.from_residual.result _ c.from_residual.ensures.0

pub returns-in_err-push : goal.returns-in_err-push
returns-in_err-push c = let exit = c.from_residual-in_err-push in IfOk-from_err exit.result _ exit.ensures.0

pub returns-in_err-from_str : goal.returns-in_err-from_str
returns-in_err-from_str c = let exit = c.from_residual-in_err-from_str in IfOk-from_err exit.result _ exit.ensures.0
