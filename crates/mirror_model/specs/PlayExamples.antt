-- Small plays: events that ran out of memory, and single calls.
use Rattle.std.specs.Prelude.{ℕ, List, [], ◌∷◌, replicate}
use Rattle.tlog_hash.specs.Sum.{sum_digest}
use Rattle.node_store.specs.Strings.{Has}
use Rattle.signed_note.specs.Keys.{Key}
use Rattle.mirror_model.specs.View.{View, nothing}
use Rattle.mirror_model.specs.declared.items.Item.{Item}
use Rattle.mirror_model.specs.declared.items.Item.TheVariants.{Tile}
use Rattle.mirror_model.specs.Item.{plus}
use Rattle.mirror_model.specs.declared.events.Event.TheVariants.{Take, Merge}
use Rattle.mirror_model.specs.Steps.{Answer, Done, Exhausted, Takes, Merges, Run}
use Rattle.mirror_model.specs.Headline.{Play, PlaysAreRetried, Leaves}

-- a tile of two hashes that are all zeros
abbrev pub two_zeros : Item
two_zeros = Tile 2 (replicate 64 0)

-- a play in which one mirror takes the tile, with that answer
abbrev pub takes_tile : ℕ → Answer → Play
takes_tile mirror answer =
    record { events = Take mirror two_zeros ∷ []; answers = answer ∷ [] }

-- a play in which mirror 1 is merged into mirror 0
abbrev pub merges_one : Play
merges_one = record { events = Merge 0 1 ∷ []; answers = Done ∷ [] }

-- a play without events
abbrev pub nothing_happens : Play
nothing_happens = record { events = []; answers = [] }

-- if a take at the end of a play runs out of memory, the first take of the next play repeats it;
-- plays without events may come between. It is not repeated if no event follows, if the next event
-- is of another mirror, or if another event comes first
pub record RetriesSpanPlays : Type 0 where
  pub next : PlaysAreRetried (takes_tile 0 Exhausted ∷ takes_tile 0 Done ∷ [])
  pub later : PlaysAreRetried (takes_tile 0 Exhausted ∷ nothing_happens ∷ takes_tile 0 Done ∷ [])
  pub not_last : ¬ PlaysAreRetried (takes_tile 0 Exhausted ∷ [])
  pub not_another_mirror :
      ¬ PlaysAreRetried (takes_tile 0 Exhausted ∷ takes_tile 1 Done ∷ [])
  pub not_after_another :
      ¬ PlaysAreRetried (takes_tile 0 Exhausted ∷ merges_one ∷ takes_tile 0 Done ∷ [])

-- a mirror opens empty; its take runs out of memory in the first of two plays, and succeeds in the
-- second. The headline applies to it, and it holds the string of the tile
pub record RetriedTakeLeaves (origin : List ℕ) (keys : List Key) : Type 0 where
  pub leaves :
      Leaves sum_digest origin keys (nothing origin ∷ [])
      (takes_tile 0 Exhausted ∷ takes_tile 0 Done ∷ []) 0
      (plus sum_digest (nothing origin) two_zeros)
  pub holds : Has (plus sum_digest (nothing origin) two_zeros).strings (1 ∷ replicate 64 0)

-- this holds for each origin and all keys
abbrev pub RetryInNextPlayCounts : Type 0
RetryInNextPlayCounts = (origin : List ℕ) (keys : List Key) → RetriedTakeLeaves origin keys

-- a take at the first of two mirrors, and then a merge of it into the second, are a run of these
-- two events
abbrev pub TwoCallsAreOneRun : Type 0
TwoCallsAreOneRun =
    (digest : List ℕ → List ℕ) (keys : List Key) (first taken second merged : View) (item : Item)
    (answer other : Answer) →
    Takes digest keys first item answer taken →
    Merges digest second taken other merged →
    Run digest keys (first ∷ second ∷ []) (Take 0 item ∷ Merge 1 0 ∷ []) (answer ∷ other ∷ [])
    (taken ∷ merged ∷ [])
