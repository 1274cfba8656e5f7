-- One honest place suffices for a run, for all answers of the others. Only the contracts of private functions cite the definitions
-- for turns.
use Rattle.std.specs.Prelude.{◌≡◌, ◌⊎◌, ℕ, ◌≤◌, max, List, [], ◌∷◌, ◌++◌, take, Contains, Option, None, Some, Result, Ok, Err}
use Rattle.std.specs.List.Sorted.{IsSorted}
use Rattle.tlog_hash.specs.Tree.{mth}
use Rattle.tlog_tiles.specs.declared.paths.Path.{Path}
use Rattle.tlog_tiles.specs.declared.paths.Path.TheVariants.{Checkpoint}
use Rattle.mirror_folders.specs.Shelf.{HasPut, Put}
use Rattle.copy_places.specs.declared.places.Places.{Places}
use Rattle.copy_follow.specs.OneHonest.{HoldsFirst, IsHonestFor}
use Rattle.copy_follow.specs.Pruned.{IsPrunedCopy}
use Rattle.copy_places.specs.Candidates.{IsOnePoint, turn_cmp}
use Rattle.copy_places.specs.declared.candidate.Candidate.{Candidate}
use Rattle.copy_follow.specs.RunStanding.{HadCopy, IsCopyNow, IsCopyOfRun}
use Rattle.copy_follow.specs.TurnsTaken.{IsAbove, IsLargerThan}
use Rattle.copy_follow.specs.declared.follow_fault.FollowFault.{FollowFault}
use Rattle.copy_follow.specs.declared.follow_fault.FollowFault.TheVariants.{ShelfFault, OutOfMemory}
use Rattle.copy_follow.specs.declared.report.Followed.{Followed}
use Rattle.copy_follow.specs.declared.run.Outcome.{Outcome}
use Rattle.copy_follow.specs.declared.run.Outcome.TheVariants as turn
use Rattle.copy_follow.specs.declared.run.Run.{Run}

-- the shelf failed, or memory was refused
abbrev pub IsOfShelfOrMemory : FollowFault → Type 0
IsOfShelfOrMemory e = (e ≡ ShelfFault) ⊎ (e ≡ OutOfMemory)

-- ---- the content of the shelf

-- the shelf records its puts, and has a copy of the first of these entries, or of all. Partial files of the copy may be replaced by
-- full ones
pub record HoldsPart (digest : List ℕ → List ℕ) (origin : List ℕ) (entries : List (List ℕ)) (puts : Option (List Put))
    : Type 0 where
  pub held : List Put
  pub is : puts ≡ Some held
  pub note : List ℕ
  pub first : List (List ℕ)
  pub more : List (List ℕ)
  pub copy : IsPrunedCopy digest origin note first held
  pub entries_are : entries ≡ first ++ more

-- the same, or the shelf has no checkpoint
pub data HoldsPartOrNone (digest : List ℕ → List ℕ) (origin : List ℕ) (entries : List (List ℕ))
    (puts : Option (List Put)) : Type 0 where
  HasPart : HoldsPart digest origin entries puts → HoldsPartOrNone digest origin entries puts
  HasNone :
      (held : List Put) → puts ≡ Some held → ¬ HasPut held Checkpoint → HoldsPartOrNone digest origin entries puts

-- ---- the candidates

-- the first of the candidates has that size and root
abbrev pub IsFirstPoint : List Candidate → ℕ → List ℕ → Type 0
IsFirstPoint [] size root = ⊥
IsFirstPoint (first ∷ others) size root = (first.size.0 ≡ size) × (first.root ≡ root)

-- one of the candidates has that size and root
pub record HasPointOf (candidates : List Candidate) (size : ℕ) (root : List ℕ) : Type 0 where
  pub candidate : Candidate
  pub listed : Contains candidates candidate
  pub size_is : candidate.size.0 ≡ size
  pub root_is : candidate.root ≡ root

-- ---- the answer

-- the copy has the size of the greatest candidate, or its old size if that is larger, and the root of the first of these entries.
-- Or the shelf failed, or memory was refused
abbrev pub ReachesLog : (List ℕ → List ℕ) → List (List ℕ) → ℕ → Result Followed FollowFault → Type 0
ReachesLog digest entries size (Ok f) = f.copy ≡ Some (max size f.old, mth digest (take (max size f.old) entries))
ReachesLog digest entries size (Err e) = IsOfShelfOrMemory e

-- there is a copy of at least that size
abbrev pub IsCopyFrom : ℕ → Option (ℕ × List ℕ) → Type 0
IsCopyFrom size None = ⊥
IsCopyFrom size (Some copy) = size ≤ copy.0

-- the copy has at least that size. Or the shelf failed, or memory was refused
abbrev pub ReachesSize : ℕ → Result Followed FollowFault → Type 0
ReachesSize size (Ok f) = IsCopyFrom size f.copy
ReachesSize size (Err e) = IsOfShelfOrMemory e

module _ (digest : List ℕ → List ℕ) {S : Type 0} (may : S → Path → Option (List ℕ) → Type 0) (puts : Option (List Put))
    (old new : Places S) (origin : List ℕ) where
  -- one of the places is honest for these entries, and the greatest candidate is a checkpoint of the first of them. There is a list
  -- of candidates for which "so" holds, and the first of each such list has that size and root. The shelf has a copy of the first
  -- of the entries, or no checkpoint
  pub record IsHonestRun (so : List Candidate → Type 0) : Type 0 where
    pub entries : List (List ℕ)
    pub size : ℕ
    pub root : List ℕ
    pub some : (candidates : List Candidate) × so candidates
    pub greatest : (candidates : List Candidate) → so candidates → IsSorted turn_cmp candidates →
        IsFirstPoint candidates size root
    pub honest : IsHonestFor digest may puts old new entries size root
    pub holds : HoldsPartOrNone digest origin entries puts

  -- one of the places is honest for these entries, and each possible list of candidates has a checkpoint of the first of them. At
  -- the start the shelf has the puts "held": a copy of the first of the entries, or no checkpoint. At the end it has "puts"
  pub record IsHonestAmong (held : Option (List Put)) (so : List Candidate → Type 0) : Type 0 where
    pub entries : List (List ℕ)
    pub size : ℕ
    pub root : List ℕ
    pub some : (candidates : List Candidate) × so candidates
    pub among : (candidates : List Candidate) → so candidates → HasPointOf candidates size root
    pub honest : IsHonestFor digest may puts old new entries size root
    pub holds : HoldsPartOrNone digest origin entries held

  -- ---- turns

  -- the same for a candidate that is larger than the copy
  pub record IsHonestTurn (candidate : Candidate) : Type 0 where
    pub entries : List (List ℕ)
    pub honest : IsHonestFor digest may puts old new entries candidate.size.0 candidate.root
    pub holds : HoldsFirst digest origin (take candidate.size.0 entries) puts

  -- the same for the first of the candidates, if that copy was read
  pub record IsHonestFirst (copy : Option Candidate) (candidates : List Candidate) : Type 0 where
    pub entries : List (List ℕ)
    pub first : Candidate
    pub others : List Candidate
    pub candidates_are : candidates ≡ first ∷ others
    pub honest : IsHonestFor digest may puts old new entries first.size.0 first.root
    pub holds : HoldsPartOrNone digest origin entries puts
    pub known : IsCopyOfRun digest origin puts puts copy

  -- the same for one of the candidates. At the start the shelf has the puts "held". At the end it has "puts"
  pub record IsHonestListed (held : Option (List Put)) (copy : Option Candidate) (candidates : List Candidate)
      : Type 0 where
    pub entries : List (List ℕ)
    pub candidate : Candidate
    pub listed : Contains candidates candidate
    pub honest : IsHonestFor digest may puts old new entries candidate.size.0 candidate.root
    pub holds : HoldsPartOrNone digest origin entries held
    pub had : HadCopy digest origin held copy
    pub known : IsCopyOfRun digest origin held held copy

-- a turn brings the copy to its candidate. Or the shelf failed, or memory was refused
abbrev pub IsBroughtOr : Result Outcome FollowFault → Type 0
IsBroughtOr (Ok outcome) = outcome ≡ turn.Brought
IsBroughtOr (Err e) = IsOfShelfOrMemory e

-- after a turn, the copy of the run is that candidate. Or the shelf failed, or memory was refused
abbrev pub BringsTo : {T : Type 0} → Candidate → Option Candidate → Result T FollowFault → Type 0
BringsTo candidate copy (Ok x) = IsCopyNow candidate copy
BringsTo candidate copy (Err e) = IsOfShelfOrMemory e

-- the copy of the run is unchanged, or it is brought to a candidate above it
abbrev pub StepsUp : Candidate → Option Candidate → Option Candidate → Type 0
StepsUp candidate old new = (new ≡ old) ⊎ (IsAbove old candidate × IsCopyNow candidate new)

-- the copy that was read is not smaller than the candidate, and the copy of the run has its size and root
pub record KeepsPoint (read : Option Candidate) (candidate now : Candidate) : Type 0 where
  pub copy : Candidate
  pub is : read ≡ Some copy
  pub upto : candidate.size.0 ≤ copy.size.0
  pub same : IsOnePoint copy now

-- the copy of the run has the size and root of the greater of two: the candidate, and the copy that was read
pub record HasReached (read : Option Candidate) (candidate : Candidate) (copy : Option Candidate) : Type 0 where
  pub now : Candidate
  pub is : copy ≡ Some now
  pub at : (IsLargerThan read candidate × IsOnePoint candidate now) ⊎ KeepsPoint read candidate now

-- this holds after the turns. Or the shelf failed, or memory was refused
abbrev pub TurnsReach : Option Candidate → Candidate → Result Run FollowFault → Type 0
TurnsReach read candidate (Ok run) = HasReached read candidate run.copy
TurnsReach read candidate (Err e) = IsOfShelfOrMemory e

-- the copy of the run has at least that size
pub record HasSize (size : ℕ) (copy : Option Candidate) : Type 0 where
  pub now : Candidate
  pub is : copy ≡ Some now
  pub upto : size ≤ now.size.0
