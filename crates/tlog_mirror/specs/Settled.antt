-- The slices that are remembered for several tree heads. Only the contracts of private functions cite these words.
use Rattle.std.specs.Prelude.{◌⊎◌, ℕ, List}
use Rattle.std.specs.List.{Contains}
use Rattle.node_store.specs.Strings.{Strings}
use Rattle.mirror_model.specs.Forks.{Point}
use Rattle.mirror_model.specs.Marks.{Points}
use Rattle.mirror_trees.specs.HeldTrees.{HasMark}
use Rattle.mirror_trees.specs.Slices.{HasSlices, IsSliceOf, AreSettled}

module _ (digest : List ℕ → List ℕ) (held : Strings) where
  -- all slices of the tree of that size and root are in the set
  abbrev pub HasSlicesOf : Points → ℕ × List ℕ → Type 0
  HasSlicesOf points head = HasSlices digest held points head.0 head.1

  -- the point is a slice of the tree of one of these tree heads
  pub record IsSliceOfAny (heads : List (ℕ × List ℕ)) (point : Point) : Type 0 where
    pub head : ℕ × List ℕ
    pub is_one : Contains heads head
    pub slice : IsSliceOf digest held head.0 head.1 point

  -- settling these tree heads adds at most slices of their trees to the remembered points, and afterwards the
  -- remembered points are settled
  pub record GainsAny (heads : List (ℕ × List ℕ)) (old new : Points) : Type 0 where
    pub at_least : (point : Point) → HasMark old point → HasMark new point
    pub at_most : (point : Point) → HasMark new point → HasMark old point ⊎ IsSliceOfAny heads point
    pub settled : AreSettled digest held new
