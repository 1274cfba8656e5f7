use Rattle.std.proofs.Common.{◌≡◌, List, ℕ, map}
use Rattle.tlog_tiles.specs.Layout.{full_row, AreFullRows}
use Rattle.mirror_model.specs.Complete.{IsTreeOf}
use Rattle.mirror_trees.proofs.files.rows_above.Given as goal

-- the levels so far
abbrev pub invariant-loop-level : goal.invariant-loop-level
invariant-loop-level g l =
    (entries : List (List ℕ)) → IsTreeOf g.H.TreeHash.digest l.store l.size l.root entries →
    l.leaves ≡ full_row g.H.TreeHash.digest entries 0 →
    AreFullRows g.H.TreeHash.digest entries l.level (map (λ row. row.items) l.rows.items)
