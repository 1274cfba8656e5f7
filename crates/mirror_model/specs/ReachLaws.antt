-- Laws of items and opening views that reach a mirror.
use Rattle.std.specs.Prelude.{◌≡◌, ◌⊎◌, ◌↔◌, ℕ, List, [], ◌∷◌, ◌++◌}
use Rattle.mirror_model.specs.declared.items.Item.{Item}
use Rattle.mirror_model.specs.declared.events.Event.{Event}
use Rattle.mirror_model.specs.declared.events.Event.TheVariants.{Take, Merge}
use Rattle.mirror_model.specs.Events.{Reaches, OpeningReaches}

-- By the last event of a list: a take at a mirror adds its item to those that reach it, a merge
-- adds the items that reached its source, and nothing else changes.
pub record ReachesByLast (events : List Event) : Type 0 where
  pub none : (item : Item) (mirror : ℕ) → ¬ Reaches item mirror []
  pub take :
      (target : ℕ) (taken item : Item) (mirror : ℕ) →
      Reaches item mirror (events ++ Take target taken ∷ [])
      ↔ (Reaches item mirror events ⊎ ((mirror ≡ target) × (item ≡ taken)))
  pub merge :
      (target source : ℕ) (item : Item) (mirror : ℕ) →
      Reaches item mirror (events ++ Merge target source ∷ [])
      ↔ (Reaches item mirror events ⊎ ((mirror ≡ target) × Reaches item source events))

-- the items that reach a mirror follow from the last event of the list and the items that reached
-- mirrors before, for every list
abbrev pub ReachesGoByLast : Type 0
ReachesGoByLast = (events : List Event) → ReachesByLast events

-- By the last event of a list: before any event, an opening view reaches its own mirror; a merge
-- adds the opening views that reached its source, and nothing else changes.
pub record OpeningReachesByLast (events : List Event) : Type 0 where
  pub none : (opened mirror : ℕ) → OpeningReaches opened mirror [] ↔ (opened ≡ mirror)
  pub take :
      (target : ℕ) (taken : Item) (opened mirror : ℕ) →
      OpeningReaches opened mirror (events ++ Take target taken ∷ [])
      ↔ OpeningReaches opened mirror events
  pub merge :
      (target source : ℕ) (opened mirror : ℕ) →
      OpeningReaches opened mirror (events ++ Merge target source ∷ [])
      ↔ (OpeningReaches opened mirror events
      ⊎ ((mirror ≡ target) × OpeningReaches opened source events))

-- the opening views that reach a mirror follow from the last event of the list, for every list
abbrev pub OpeningReachesGoByLast : Type 0
OpeningReachesGoByLast = (events : List Event) → OpeningReachesByLast events
