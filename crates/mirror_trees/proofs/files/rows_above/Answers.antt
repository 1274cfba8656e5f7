use Rattle.std.proofs.lemmas.Result.{IfOk-from_err}
use Rattle.mirror_trees.proofs.files.rows_above.Goals as goal

pub returns-in_err-write_row : goal.returns-in_err-write_row
returns-in_err-write_row g c = IfOk-from_err _ _ c.from_residual.ensures.0

pub returns-in_err-push : goal.returns-in_err-push
returns-in_err-push g c = IfOk-from_err _ _ c.from_residual-in_err-push.ensures.0

pub returns-in_err-row : goal.returns-in_err-row
returns-in_err-row g c = IfOk-from_err _ _ c.from_residual-in_err-row.ensures.0

pub returns-in_err-write_row-2 : goal.returns-in_err-write_row-2
returns-in_err-write_row-2 g c = IfOk-from_err _ _ c.from_residual-in_err-write_row-2.ensures.0

pub returns-in_err-push-2 : goal.returns-in_err-push-2
returns-in_err-push-2 g c = IfOk-from_err _ _ c.from_residual-in_err-push-2.ensures.0
