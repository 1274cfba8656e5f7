use Rattle.std.proofs.lemmas.Result.{IfOk-from_err}
use Rattle.tlog_mirror.proofs.branches.branch_of.Goals as goal

pub returns-in_err-as_small : goal.returns-in_err-as_small
returns-in_err-as_small g c = record {
  head = IfOk-from_err _ _ c.from_residual.ensures.0;
  branch = IfOk-from_err _ _ c.from_residual.ensures.0;
  spelled = IfOk-from_err _ _ c.from_residual.ensures.0;
}

pub returns-in_err-as_large : goal.returns-in_err-as_large
returns-in_err-as_large g c = record {
  head = IfOk-from_err _ _ c.from_residual-in_err-as_large.ensures.0;
  branch = IfOk-from_err _ _ c.from_residual-in_err-as_large.ensures.0;
  spelled = IfOk-from_err _ _ c.from_residual-in_err-as_large.ensures.0;
}
