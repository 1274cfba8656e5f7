-- The kept note that is served: its tree is held. It has the greatest size, then the least root, then the least bytes.
use Rattle.std.specs.Prelude.{◌≡◌, ℕ, ◌<◌, List, length, slice_index_or, Option, Some, None, false}
use Rattle.std.specs.Prelude.{⊤, IfSome}
use Rattle.std.specs.Ordering.{nat_cmp, ordering_then, is_gt}
use Rattle.std.specs.declared.cmp.Ordering.{Ordering}
use Rattle.std.specs.declared.cmp.Ordering.TheVariants.{Less}
use Rattle.std.specs.Cmp.Lexicographic.{slice_cmp}
use Rattle.std.specs.List.{Contains}
use Rattle.node_store.specs.Strings.{Strings}
use Rattle.mirror_model.specs.Complete.{IsBuilt}
use Rattle.mirror_model.specs.Forks.{Point}
use Rattle.mirror_trees.specs.HeldLeaves.{HasLeaves}
use Rattle.mirror_trees.specs.Marked.{point_of}
use Rattle.mirror_trees.specs.declared.leaves.Leaves.{Leaves}
use Rattle.mirror_trees.specs.declared.held_note.HeldNote.{HeldNote}

-- the size and root of a kept note
abbrev pub kept_point : HeldNote → Point
kept_point kept = record { size = kept.size; root = kept.root }

-- the order in which complete tree heads are served: the greater size first, then the lesser root
abbrev pub served_cmp : Point → Point → Ordering
served_cmp a b = ordering_then (nat_cmp b.size a.size) (slice_cmp nat_cmp a.root b.root)

-- the tree head is served before the one that was found, if there is one
abbrev pub IsAhead : Point → Option (ℕ × List ℕ) → Type 0
IsAhead point None = ⊤
IsAhead point (Some found) = served_cmp point (point_of found) ≡ Less

-- a kept note has that size and root
pub record HasKept (kept : List HeldNote) (point : Point) : Type 0 where
  pub one : HeldNote
  pub is_kept : Contains kept one
  pub is : kept_point one ≡ point

module _ (digest : List ℕ → List ℕ) (held : Strings) where
  -- the tree of that size and root is held
  abbrev pub IsBuiltAt : Point → Type 0
  IsBuiltAt point = IsBuilt digest held point.size point.root

  -- a kept note has that size and root, its tree is held, and no kept note whose tree is held is served before it
  pub record IsBest (kept : List HeldNote) (point : Point) : Type 0 where
    pub has : HasKept kept point
    pub built : IsBuiltAt point
    pub first : (other : HeldNote) → Contains kept other → IsBuiltAt (kept_point other) →
        is_gt (served_cmp point (kept_point other)) ≡ false

  -- the answer of the search among the kept notes: None if no tree of a kept note is held, else the size and root that
  -- are served first
  abbrev pub IsBestOf : List HeldNote → Option (ℕ × List ℕ) → Type 0
  IsBestOf kept None = (other : HeldNote) → Contains kept other → ¬ IsBuiltAt (kept_point other)
  IsBestOf kept (Some found) = IsBest kept (point_of found)

  -- the leaves, if there are any, are those of the tree that was found
  abbrev pub AreLeavesOf : Option (ℕ × List ℕ) → Option Leaves → Type 0
  AreLeavesOf found leaves =
      IfSome found (λ point. IfSome leaves (HasLeaves digest held point.0 point.1))

-- the note is the first kept note with that size and root
pub record IsFirstWith (kept : List HeldNote) (point : Point) (one : HeldNote) : Type 0 where
  pub at : ℕ
  pub within : at < length kept
  pub is_there : slice_index_or kept at one ≡ one
  pub is : kept_point one ≡ point
  pub none : (k : ℕ) (other : HeldNote) → k < at → slice_index_or kept k other ≡ other →
      ¬ (kept_point other ≡ point)
