use Rattle.std.proofs.Common.{lt-ltb, ltb-true}
use Rattle.tlog_mirror.proofs.plays.is_fitting.Goals as goal

pub returns-then-target-count-2 : goal.returns-then-target-count-2
returns-then-target-count-2 c =
    rw c.in-Merge.is (
      (λ is. (c.if-target-count-2.true, ltb-true c.in-Merge.source c.args.count is)),
      (λ fits. lt-ltb c.in-Merge.source c.args.count fits.1),
    )
