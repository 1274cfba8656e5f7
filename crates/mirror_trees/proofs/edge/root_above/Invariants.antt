use Rattle.std.proofs.Common.{◌≡◌, map, length}
use Rattle.std.specs.Vec.Iter.{into_iter_items, into_iter_len}
use Rattle.mirror_model.specs.Edge.{root_from}
use Rattle.mirror_trees.proofs.edge.root_above.Given as goal

-- the remaining rows lead to the same hash
abbrev pub invariant-loop-row : goal.invariant-loop-row
invariant-loop-row g l = record {
  root : root_from g.H.TreeHash.digest l.value (map (λ row. row.items) (into_iter_items l.row-iterator))
      ≡ root_from g.H.TreeHash.digest l.fn.start (map (λ row. row.items) l.fn.rows.items);
  count : into_iter_len l.row-iterator ≡ length (into_iter_items l.row-iterator);
}
