-- A fault of the copy, by a second look at its checkpoint.
use Rattle.std.specs.Prelude.{◌≡◌, ◌⊎◌, ℕ, List, Option, Some, None, option_map, ⊤}
use Rattle.tlog_tiles.specs.declared.paths.Path.TheVariants.{Checkpoint}
use Rattle.mirror_folders.specs.Shelf.{Put, RecordsRead}
use Rattle.copy_places.specs.Candidates.{note_of}
use Rattle.copy_places.specs.Lines.{IsFirstOrListed}
use Rattle.copy_places.specs.declared.candidate.Candidate.{Candidate}
use Rattle.copy_follow.specs.Faults.{IsOtherFound}
use Rattle.copy_follow.specs.declared.follow_fault.FollowFault.{FollowFault}
use Rattle.copy_follow.specs.declared.follow_fault.FollowFault.TheVariants.{NoCheckpoint, Head, CopyDamaged, CopyInUse, ShelfFault, Contradiction, Collision, NoFile, Source, OutOfMemory}

-- what a look at the shelf's checkpoint says at a fault of the copy. At CopyDamaged it is the one that was found, at CopyInUse another one
abbrev pub EndsByLook : Option (List Put) → Option (List ℕ) → FollowFault → Type 0
EndsByLook puts found NoCheckpoint = ⊤
EndsByLook puts found (Head fault) = ⊤
EndsByLook puts found CopyDamaged = RecordsRead puts Checkpoint found
EndsByLook puts found CopyInUse = IsOtherFound found puts
EndsByLook puts found ShelfFault = ⊤
EndsByLook puts found Contradiction = ⊤
EndsByLook puts found Collision = ⊤
EndsByLook puts found NoFile = ⊤
EndsByLook puts found Source = ⊤
EndsByLook puts found OutOfMemory = ⊤

-- the same for a checkpoint that was there at the start, when the shelf had the puts "old", or for a note for which "so" holds
pub record IsLookedAt (so : List ℕ → Type 0) (old now : Option (List Put)) (fault : FollowFault) : Type 0 where
  pub found : Option (List ℕ)
  pub had : RecordsRead old Checkpoint found ⊎ ((note : List ℕ) × (found ≡ Some note) × so note)
  pub ends : EndsByLook now found fault

-- the same for a call that may also end by other faults
abbrev pub EndsLooking : (List ℕ → Type 0) → Option (List Put) → Option (List Put) → FollowFault → Type 0
EndsLooking so old now NoCheckpoint = ⊤
EndsLooking so old now (Head fault) = ⊤
EndsLooking so old now CopyDamaged = IsLookedAt so old now CopyDamaged
EndsLooking so old now CopyInUse = IsLookedAt so old now CopyInUse
EndsLooking so old now ShelfFault = ⊤
EndsLooking so old now Contradiction = ⊤
EndsLooking so old now Collision = ⊤
EndsLooking so old now NoFile = ⊤
EndsLooking so old now Source = ⊤
EndsLooking so old now OutOfMemory = ⊤

-- ---- only contracts of private functions cite what follows

-- the copy of a run: the first copy, or one of the candidates. There is none only if there was none
abbrev pub IsHeldOf : Option Candidate → List Candidate → Option Candidate → Type 0
IsHeldOf first candidates None = first ≡ None
IsHeldOf first candidates (Some copy) = IsFirstOrListed first candidates copy

-- a fault in the turns of the candidates, by a look at the checkpoint of the run's copy
pub record EndsTurns (first : Option Candidate) (candidates : List Candidate) (now : Option (List Put)) (fault : FollowFault)
    : Type 0 where
  pub copy : Option Candidate
  pub held : IsHeldOf first candidates copy
  pub ends : EndsByLook now (option_map note_of copy) fault
