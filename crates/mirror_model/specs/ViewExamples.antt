-- Small views and plays.
use Rattle.std.specs.Prelude.{ℕ, List, [], ◌∷◌}
use Rattle.tlog_hash.specs.Tree.{mth}
use Rattle.tlog_hash.specs.Sum.{sum_digest}
use Rattle.signed_note.specs.Keys.{Key}
use Rattle.mirror_model.specs.View.{View, nothing}
use Rattle.mirror_model.specs.Heads.{IsHead}
use Rattle.mirror_model.specs.Complete.{IsLawful}
use Rattle.mirror_model.specs.Served.{Served}
use Rattle.mirror_model.specs.declared.events.Event.TheVariants.{Merge}
use Rattle.mirror_model.specs.Headline.{ReachedAlike}

-- a mirror that opened empty and was merged with another has the same view as the other: an empty
-- opening view adds nothing
abbrev pub EmptyCountsForNothing : Type 0
EmptyCountsForNothing =
    (digest : List ℕ → List ℕ) (origin : List ℕ) (keys : List Key) (v : View) →
    let opened : List View = nothing origin ∷ v ∷ [] in
    ReachedAlike digest origin keys opened opened (Merge 0 1 ∷ []) (Merge 0 1 ∷ []) 0 1

-- one entry of one byte
abbrev pub one_entry : List (List ℕ)
one_entry = (1 ∷ []) ∷ []

-- a lawful view holds the note and serves the entry
pub record ServesOneEntry (note origin : List ℕ) : Type 0 where
  pub view : View
  pub lawful : IsLawful sum_digest view
  pub served : Served sum_digest view note 1 (mth sum_digest one_entry) one_entry

-- for each note with that size and root, a lawful view serves the entry
abbrev pub OneEntryIsServed : Type 0
OneEntryIsServed =
    (note origin : List ℕ) → IsHead note origin 1 (mth sum_digest one_entry) →
    ServesOneEntry note origin
