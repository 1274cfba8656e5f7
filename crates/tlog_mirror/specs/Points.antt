-- Sizes and roots in order, and whether their trees are held.
use Rattle.std.specs.Prelude.{ℕ, List, IsTrue, ◌↔◌}
use Rattle.std.specs.declared.cmp.Ordering.{Ordering}
use Rattle.node_store.specs.Strings.{Strings}
use Rattle.mirror_model.specs.Complete.{IsBuilt}
use Rattle.mirror_model.specs.Forks.{point_cmp}
use Rattle.mirror_model.specs.declared.reports.Head.{Head}
use Rattle.mirror_trees.specs.Marked.{point_of}

-- the order of pairs of a size and a root: by size, then by root
abbrev pub by_point : ℕ × List ℕ → ℕ × List ℕ → Ordering
by_point a b = point_cmp (point_of a) (point_of b)

-- the flag of a tree head is true exactly if its tree is held
abbrev pub IsBuiltFlag : (List ℕ → List ℕ) → Strings → Head → Type 0
IsBuiltFlag digest held head = IsTrue head.complete ↔ IsBuilt digest held head.size head.root
