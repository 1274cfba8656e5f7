use Rattle.std.proofs.Common.{ap, ◌∙◌}
use Rattle.std.specs.Prelude.{map}
use Rattle.std.proofs.lemmas.List.{take_all}
use Rattle.std.proofs.lemmas.Result.{IfOk-from_err}
use Rattle.mirror_trees.specs.Marked.{point_of}
use Rattle.tlog_mirror.proofs.compared.compare_all.Goals as goal

pub returns-clause-heads : goal.returns-clause-heads
returns-clause-heads g c =
    c.loop-head.invariant.heads ∙
    ap (map point_of) (take_all c.loop-head.head-index c.args.heads.now c.loop-head-test.false)

pub returns-in_err-compared-clause-heads : goal.returns-in_err-compared-clause-heads
returns-in_err-compared-clause-heads g c = IfOk-from_err _ _ c.from_residual.ensures.0

pub returns-in_err-push-clause-heads : goal.returns-in_err-push-clause-heads
returns-in_err-push-clause-heads g c = IfOk-from_err _ _ c.from_residual-in_err-push.ensures.0

pub returns-in_err-compared-clause-each : goal.returns-in_err-compared-clause-each
returns-in_err-compared-clause-each g c = λ entries is. IfOk-from_err _ _ c.from_residual.ensures.0

pub returns-in_err-push-clause-each : goal.returns-in_err-push-clause-each
returns-in_err-push-clause-each g c = λ entries is. IfOk-from_err _ _ c.from_residual-in_err-push.ensures.0
