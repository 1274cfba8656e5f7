use Rattle.std.proofs.Common.{◌++◌, map, ◌∙◌}
use Rattle.tlog_hash.specs.Tree.{mth}
use Rattle.tlog_hash.specs.Rows.{ranges}
use Rattle.mirror_trees.proofs.rows.row_at.Goals as goal

pub push_row-requires-clause-within : goal.push_row-requires-clause-within
push_row-requires-clause-within g c =
    rw (c.in-Some.ensures.some.0, c.from.ensures, c.unit_of.ensures.value) c.in-Some.ensures.some.1.within

pub returns-then-branch-clause-some : goal.returns-then-branch-clause-some
returns-then-branch-clause-some g c = λ es tree.
    (c.in_ok-push_row.ensures es tree).1
    ∙ (λ i. c.in_ok-row.ensures.items i
    ++ map (mth g.H.TreeHash.digest)
    (ranges (c.unit_of.ensures.value i) (c.in-Some.ensures.some.0 i) (c.from.ensures i) es))
