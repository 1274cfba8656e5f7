-- The reasons why a call of `follow` ends with a fault.
use Rattle.std.specs.Prelude.{◌≡◌, ◌≢◌, ◌⊎◌, ℕ, List, [], ◌∷◌, Option, Some, None, get_or, ⊤}
use Rattle.std.specs.List.Sorted.{IsSorted}
use Rattle.tlog_tiles.specs.declared.paths.Path.{Path}
use Rattle.tlog_tiles.specs.declared.paths.Path.TheVariants.{Checkpoint}
use Rattle.signed_note.specs.Keys.{Key}
use Rattle.mirror_folders.specs.Shelf.{Put, RecordsRead}
use Rattle.copy_places.specs.declared.place.Place.{Place}
use Rattle.copy_places.specs.declared.places.Places.{Places}
use Rattle.copy_follow.specs.declared.bring_fault.BringFault.{BringFault}
use Rattle.copy_follow.specs.declared.bring_fault.BringFault.TheVariants as bring
use Rattle.copy_places.specs.Requests.{PlaceFails}
use Rattle.copy_places.specs.Candidates.{turn_cmp}
use Rattle.copy_places.specs.GatheredFrom.{AreCandidates, GiveNone, IsRefused}
use Rattle.copy_places.specs.declared.candidate.Candidate.{Candidate}
use Rattle.copy_places.specs.declared.candidate_fault.CandidateFault.TheVariants as candidate
use Rattle.copy_follow.specs.Rule.{HasOneRoot}
use Rattle.copy_follow.specs.RunStanding.{HoldsNoCopy}
use Rattle.copy_follow.specs.declared.follow_fault.FollowFault.{FollowFault}
use Rattle.copy_follow.specs.declared.follow_fault.FollowFault.TheVariants.{NoCheckpoint, Head, CopyDamaged, CopyInUse, ShelfFault, Contradiction, Collision, NoFile, Source, OutOfMemory}
use Rattle.copy_follow.specs.declared.run.Run.{Run}
use Rattle.copy_follow.specs.declared.run.Outcome.{Outcome}
use Rattle.copy_follow.specs.declared.run.Outcome.TheVariants as turn

-- ---- faults of turns

-- the facts at a fault that ends the run in a turn: "damaged" at CopyDamaged, "in_use" at CopyInUse
abbrev pub EndsRun : Type 0 → Type 0 → FollowFault → Type 0
EndsRun damaged in_use NoCheckpoint = ⊥
EndsRun damaged in_use (Head fault) = ⊥
EndsRun damaged in_use CopyDamaged = damaged
EndsRun damaged in_use CopyInUse = in_use
EndsRun damaged in_use ShelfFault = ⊤
EndsRun damaged in_use Contradiction = ⊥
EndsRun damaged in_use Collision = ⊥
EndsRun damaged in_use NoFile = ⊥
EndsRun damaged in_use Source = ⊥
EndsRun damaged in_use OutOfMemory = ⊤

-- the same with one fact for both
abbrev pub EndsAt : Type 0 → FollowFault → Type 0
EndsAt so fault = EndsRun so so fault

-- what a fault says of the places: "once" if none of them gives a candidate. Source also comes if the copy was "empty"
abbrev pub EndsOnce : (once empty : Type 0) → FollowFault → Type 0
EndsOnce once empty NoCheckpoint = once
EndsOnce once empty (Head fault) = once
EndsOnce once empty CopyDamaged = ⊤
EndsOnce once empty CopyInUse = ⊤
EndsOnce once empty ShelfFault = ⊤
EndsOnce once empty Contradiction = ⊤
EndsOnce once empty Collision = ⊤
EndsOnce once empty NoFile = ⊤
EndsOnce once empty Source = once ⊎ empty
EndsOnce once empty OutOfMemory = ⊤

-- the fault is not that of a missing file
abbrev pub IsNoLack : FollowFault → Type 0
IsNoLack NoCheckpoint = ⊤
IsNoLack (Head fault) = ⊤
IsNoLack CopyDamaged = ⊤
IsNoLack CopyInUse = ⊤
IsNoLack ShelfFault = ⊤
IsNoLack Contradiction = ⊤
IsNoLack Collision = ⊤
IsNoLack NoFile = ⊥
IsNoLack Source = ⊥
IsNoLack OutOfMemory = ⊤

-- the copy was not brought to the candidate, and not for a missing file
abbrev pub IsOfConflict : Outcome → Type 0
IsOfConflict turn.Agrees = ⊤
IsOfConflict turn.Brought = ⊥
IsOfConflict (turn.Forks proof) = ⊤
IsOfConflict turn.Contradicts = ⊤
IsOfConflict (turn.NotHad fault) = IsNoLack fault

-- a call of bring_copy ended since the copy is not the one that was found
abbrev pub IsOfOtherRun : BringFault → Type 0
IsOfOtherRun bring.BadCheckpoint = ⊤
IsOfOtherRun bring.CopyDamaged = ⊥
IsOfOtherRun bring.NotLarger = ⊤
IsOfOtherRun bring.Contradiction = ⊥
IsOfOtherRun bring.Collision = ⊥
IsOfOtherRun bring.NoFile = ⊥
IsOfOtherRun bring.Source = ⊥
IsOfOtherRun bring.CopyInUse = ⊤
IsOfOtherRun bring.ShelfFault = ⊥
IsOfOtherRun bring.OutOfMemory = ⊥

-- the candidate has no entries, but its root is not the hash of the empty list
abbrev pub HasFalseRoot : (List ℕ → List ℕ) → Candidate → Type 0
HasFalseRoot digest candidate = (candidate.size.0 ≡ 0) × (candidate.root ≢ digest [])

-- a fault for which an empty copy was not brought to the candidate, while the run continues
abbrev pub IsFaultOf : (List ℕ → List ℕ) → Candidate → FollowFault → Type 0
IsFaultOf digest candidate NoCheckpoint = ⊥
IsFaultOf digest candidate (Head fault) = ⊥
IsFaultOf digest candidate CopyDamaged = ⊥
IsFaultOf digest candidate CopyInUse = ⊥
IsFaultOf digest candidate ShelfFault = ⊥
IsFaultOf digest candidate Contradiction = HasFalseRoot digest candidate
IsFaultOf digest candidate Collision = ⊥
IsFaultOf digest candidate NoFile = ⊤
IsFaultOf digest candidate Source = ⊤
IsFaultOf digest candidate OutOfMemory = ⊥

-- the outcome of a turn if the copy is empty: it was brought to the candidate, or could not be
abbrev pub IsOfEmpty : (List ℕ → List ℕ) → Candidate → Outcome → Type 0
IsOfEmpty digest candidate turn.Agrees = ⊥
IsOfEmpty digest candidate turn.Brought = ⊤
IsOfEmpty digest candidate (turn.Forks proof) = ⊥
IsOfEmpty digest candidate turn.Contradicts = HasFalseRoot digest candidate
IsOfEmpty digest candidate (turn.NotHad fault) = IsFaultOf digest candidate fault

-- the first fault, after one more fault
abbrev pub or_fault : Option FollowFault → FollowFault → Option FollowFault
or_fault None fault = Some fault
or_fault (Some first) fault = Some first

-- the first fault of a run, after a turn
abbrev pub fault_after : Option FollowFault → Outcome → Option FollowFault
fault_after first turn.Agrees = first
fault_after first turn.Brought = first
fault_after first (turn.Forks proof) = first
fault_after first turn.Contradicts = or_fault first Contradiction
fault_after first (turn.NotHad fault) = or_fault first fault

-- no place failed
abbrev pub NoPlaceFails : {S : Type 0} → Places S → Places S → Type 0
NoPlaceFails {S} old new = (k : ℕ) (d : Place S) →
    (get_or new.list.items k d).failures ≡ (get_or old.list.items k d).failures

-- if the first fault of a run became Source, a place failed
abbrev pub BlamesPlace : {S : Type 0} → Places S → Places S → Option FollowFault → Option FollowFault → Type 0
BlamesPlace old new first last = last ≡ Some Source → (first ≡ Some Source) ⊎ PlaceFails old new

-- the fault is that of the first candidate. Without candidates there is none
abbrev pub IsFirstFault : (List ℕ → List ℕ) → List Candidate → Option FollowFault → Type 0
IsFirstFault digest [] fault = fault ≡ None
IsFirstFault digest (candidate ∷ others) None = ⊥
IsFirstFault digest (candidate ∷ others) (Some fault) = IsFaultOf digest candidate fault

-- if the copy of a run is empty, the run keeps the fault of the first of these candidates
abbrev pub KeepsFault : (List ℕ → List ℕ) → List Candidate → Run → Type 0
KeepsFault digest done run = run.copy ≡ None → IsFirstFault digest done run.first_fault

-- ---- faults of a whole call

module _ (digest : List ℕ → List ℕ) {S : Type 0} (may : S → Path → Option (List ℕ) → Type 0) (origin : List ℕ)
    (keys : List Key) (puts : Option (List Put)) (old new : Places S) where
  -- there are candidates, no two of one size with different roots, and "so" holds for the first. The shelf had no checkpoint
  pub record HadNone (given : Option (List ℕ)) (so : Candidate → Type 0) : Type 0 where
    pub first : Candidate
    pub others : List Candidate
    pub gathered : AreCandidates may origin keys old new given (first ∷ others)
    pub rising : IsSorted turn_cmp (first ∷ others)
    pub one_root : HasOneRoot (first ∷ others)
    pub is_so : so first
    pub empty : RecordsRead puts Checkpoint None

  -- the facts at a fault, with the given note or without one. NoCheckpoint and Head: the given note is no candidate, or no place
  -- gives one, with the reason of the first place. CopyDamaged and CopyInUse: the shelf recorded no copy. Contradiction, NoFile
  -- and Source: the copy was empty, and this is the fault of the greatest candidate. Collision never comes
  abbrev pub EndsFor : Option (List ℕ) → FollowFault → Type 0
  EndsFor None NoCheckpoint = GiveNone may origin keys old new candidate.NoCheckpoint
  EndsFor None (Head fault) = GiveNone may origin keys old new (candidate.Head fault)
  EndsFor (Some note) NoCheckpoint = ⊥
  EndsFor (Some note) (Head fault) = IsRefused origin keys note fault
  EndsFor given CopyDamaged = HoldsNoCopy digest origin puts
  EndsFor given CopyInUse = HoldsNoCopy digest origin puts
  EndsFor given ShelfFault = ⊤
  EndsFor given Contradiction = HadNone given (HasFalseRoot digest)
  EndsFor given Collision = ⊥
  EndsFor given NoFile = HadNone given (λ first. ⊤)
  EndsFor None Source =
      PlaceFails old new × (GiveNone may origin keys old new candidate.Source ⊎ HadNone None (λ first. ⊤))
  EndsFor (Some note) Source = PlaceFails old new × HadNone (Some note) (λ first. ⊤)
  EndsFor given OutOfMemory = ⊤
