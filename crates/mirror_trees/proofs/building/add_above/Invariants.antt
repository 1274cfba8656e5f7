use Rattle.std.proofs.Common.{◌≡◌, ℕ, List, map, length}
use Rattle.std.specs.FinSet as set
use Rattle.std.specs.Vec.Iter.{into_iter_items, into_iter_len}
use Rattle.node_store.specs.Strings.{Has, NoClash}
use Rattle.mirror_model.specs.Edge.{root_from, strings_from}
use Rattle.mirror_trees.proofs.building.add_above.Given as goal

-- the remaining rows lead to the same value
abbrev pub invariant-loop-row : goal.invariant-loop-row
invariant-loop-row g l = record {
  root : root_from g.H.TreeHash.digest l.value (map (λ row. row.items) (into_iter_items l.row-iterator))
      ≡ root_from g.H.TreeHash.digest l.fn.start (map (λ row. row.items) l.fn.rows.items);
  strings : set.union l.store
      (set.from_list
      (strings_from g.H.TreeHash.digest l.value (map (λ row. row.items) (into_iter_items l.row-iterator))))
      ≡ set.union l.fn.store
      (set.from_list (strings_from g.H.TreeHash.digest l.fn.start (map (λ row. row.items) l.fn.rows.items)));
  grows : (s : List ℕ) → Has l.fn.store s → Has l.store s;
  count : into_iter_len l.row-iterator ≡ length (into_iter_items l.row-iterator);
  no_clash : NoClash g.H.TreeHash.digest l.store;
}
