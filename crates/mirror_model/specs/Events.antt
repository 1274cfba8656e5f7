-- Events at mirrors, which are numbered from 0, and the items that reach a mirror.
use Rattle.std.specs.Prelude.{◌≡◌, ◌<◌, ◌≤◌, All, ℕ, ◌+◌, List, [], ◌∷◌, Some, slice_get}
use Rattle.mirror_model.specs.declared.items.Item.{Item}
use Rattle.mirror_model.specs.declared.items.Item.TheVariants.{Head, Tile, Bundle}
use Rattle.mirror_model.specs.declared.events.Event.{Event}
use Rattle.mirror_model.specs.declared.events.Event.TheVariants.{Take, Merge}
use Rattle.mirror_model.specs.Item.{IsWidth}

-- the event names only mirrors below the count, and the width of its item is possible for a tile or
-- bundle
abbrev pub IsFitting : ℕ → Event → Type 0
IsFitting count (Take target (Head note edge)) = target < count
IsFitting count (Take target (Tile width bytes)) = (target < count) × IsWidth width
IsFitting count (Take target (Bundle width bytes)) = (target < count) × IsWidth width
IsFitting count (Merge target source) = (target < count) × (source < count)

-- each event of the list fits the count of mirrors
abbrev pub Fits : List Event → ℕ → Type 0
Fits events count = All (IsFitting count) events

-- The events at these rising positions, from the given one on, are merges. The source of each merge
-- is the target of the merge before it, and the last target is the end. Without merges, the end is
-- the source.
abbrev pub MergesLead : List Event → ℕ → ℕ → List ℕ → ℕ → Type 0
MergesLead events first source [] end = source ≡ end
MergesLead events first source (position ∷ positions) end =
    (target : ℕ) × (first ≤ position) × (slice_get events position ≡ Some (Merge target source))
    × MergesLead events (position + 1) target positions end

-- the item reaches the mirror: at rising positions of the list, there are a take of the item and
-- then merges from its mirror to this one
pub record Reaches (item : Item) (mirror : ℕ) (events : List Event) : Type 0 where
  pub position : ℕ
  pub target : ℕ
  pub take : slice_get events position ≡ Some (Take target item)
  pub merges : List ℕ
  pub lead : MergesLead events (position + 1) target merges mirror

-- the opening view of a mirror reaches a mirror: merges lead from the first to the second
pub record OpeningReaches (opened mirror : ℕ) (events : List Event) : Type 0 where
  pub merges : List ℕ
  pub lead : MergesLead events 0 opened merges mirror
