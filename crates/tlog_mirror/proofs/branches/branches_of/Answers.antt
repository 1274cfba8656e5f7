use Rattle.std.proofs.Common.{List, [], subst, sym}
use Rattle.std.specs.Prelude.{All}
use Rattle.std.proofs.lemmas.List.Elements.{All-push}
use Rattle.std.proofs.lemmas.Result.{IfOk-from_err}
use Rattle.tlog_mirror.specs.Branches.{IsBranch, IsSpelled}
use Rattle.tlog_mirror.specs.declared.branches.Branch.{Branch}
use Rattle.tlog_mirror.proofs.BranchSteps.{heads_more, branches_more}
use Rattle.tlog_mirror.proofs.branches.branches_of.Goals as goal

pub loop-head-preserved : goal.loop-head-preserved
loop-head-preserved g c = record {
  heads = heads_more g.H.TreeHash.digest c.args.store.now c.loop-head.branches.items c.in_ok-branch.branch
      c.push.new.self.items c.in_ok-push.ensures.items c.args.heads.now c.loop-head.head-index (0, [])
      c.loop-head-test.true c.loop-head.invariant.heads c.in_ok-branch.ensures.head;
  each = branches_more g.H.TreeHash.digest c.args.store.now c.loop-head.branches.items c.in_ok-branch.branch
      c.push.new.self.items c.in_ok-push.ensures.items c.loop-head.invariant.each
      (subst (λ (bs : List Branch). IsBranch g.H.TreeHash.digest c.args.store.now bs c.in_ok-branch.branch)
      c.as_slice.ensures.value c.in_ok-branch.ensures.branch);
  spelled = subst (All IsSpelled) (sym c.in_ok-push.ensures.items)
      (All-push IsSpelled c.loop-head.branches.items c.in_ok-branch.branch c.loop-head.invariant.spelled
      c.in_ok-branch.ensures.spelled);
}

pub returns-in_err-branches : goal.returns-in_err-branches
returns-in_err-branches g c = record {
  heads = IfOk-from_err _ _ c.from_residual.ensures.0;
  each = IfOk-from_err _ _ c.from_residual.ensures.0;
  spelled = IfOk-from_err _ _ c.from_residual.ensures.0;
}

pub returns-in_err-branch : goal.returns-in_err-branch
returns-in_err-branch g c = record {
  heads = IfOk-from_err _ _ c.from_residual-in_err-branch.ensures.0;
  each = IfOk-from_err _ _ c.from_residual-in_err-branch.ensures.0;
  spelled = IfOk-from_err _ _ c.from_residual-in_err-branch.ensures.0;
}

pub returns-in_err-push : goal.returns-in_err-push
returns-in_err-push g c = record {
  heads = IfOk-from_err _ _ c.from_residual-in_err-push.ensures.0;
  each = IfOk-from_err _ _ c.from_residual-in_err-push.ensures.0;
  spelled = IfOk-from_err _ _ c.from_residual-in_err-push.ensures.0;
}
