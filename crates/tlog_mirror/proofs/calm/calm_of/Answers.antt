use Rattle.std.proofs.lemmas.Result.{IfOk-from_err}
use Rattle.tlog_mirror.proofs.calm.calm_of.Goals as goal

pub returns-in_err-calm : goal.returns-in_err-calm
returns-in_err-calm c = record {
  len = IfOk-from_err _ _ c.from_residual.ensures.0;
  calm = IfOk-from_err _ _ c.from_residual.ensures.0;
}
