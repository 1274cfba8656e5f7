use Rattle.std.proofs.Common.{map}
use Rattle.tlog_mirror.proofs.plays.apply.Goals as goal

pub returns-in-Take-clause-happens : goal.returns-in-Take-clause-happens
returns-in-Take-clause-happens g c = rw c.in-Take.is c.take_at.ensures.takes

pub returns-in-Take-clause-judged : goal.returns-in-Take-clause-judged
returns-in-Take-clause-judged g c = rw c.in-Take.is c.take_at.ensures.judged

pub returns-in-Take-clause-origins : goal.returns-in-Take-clause-origins
returns-in-Take-clause-origins g c = c.take_at.ensures.origins

pub returns-in-Take-clause-remembered : goal.returns-in-Take-clause-remembered
returns-in-Take-clause-remembered g c = c.take_at.ensures.remembered

pub returns-in-Merge-clause-happens : goal.returns-in-Merge-clause-happens
returns-in-Merge-clause-happens g c =
    rw c.in-Merge.is (c.merge_at.ensures.merges (map (λ b. (goal.Verifier-dyn g (b.vtable, b.value)).key b.value) c.args.keys.now))

pub returns-in-Merge-clause-judged : goal.returns-in-Merge-clause-judged
returns-in-Merge-clause-judged g c = rw c.in-Merge.is (c.merge_at.ensures.judged, c.merge_at.ensures.itself)

pub returns-in-Merge-clause-origins : goal.returns-in-Merge-clause-origins
returns-in-Merge-clause-origins g c = c.merge_at.ensures.origins

pub returns-in-Merge-clause-remembered : goal.returns-in-Merge-clause-remembered
returns-in-Merge-clause-remembered g c = c.merge_at.ensures.remembered
