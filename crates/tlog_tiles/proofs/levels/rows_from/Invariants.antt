use Rattle.std.proofs.Common.{◌≡◌, ◌+◌, List, ℕ, map}
use Rattle.tlog_tiles.specs.Layout.{full_row, AreFullRows}
use Rattle.tlog_tiles.proofs.levels.rows_from.Given as goal

-- the levels so far, and the hashes of the next
abbrev pub invariant-loop : goal.invariant-loop
invariant-loop g l =
    (entries : List (List ℕ)) → l.leaves ≡ full_row g.H.TreeHash.digest entries 0 →
    l.fn.above.items ≡ full_row g.H.TreeHash.digest entries 1 →
    (l.row.items ≡ full_row g.H.TreeHash.digest entries (l.counter + 1))
    × AreFullRows g.H.TreeHash.digest entries (l.counter + 1) (map (λ row. row.items) l.rows.items)
