-- The copy of a run: the content of the shelf while candidates have their turn, and at the end.
use Rattle.std.specs.Prelude.{◌≡◌, ℕ, ◌≤◌, List, [], ◌++◌, length, Option, Some, None}
use Rattle.tlog_hash.specs.Tree.{mth}
use Rattle.tlog_tiles.specs.declared.paths.Path.TheVariants.{Checkpoint}
use Rattle.mirror_model.specs.Heads.{IsHead}
use Rattle.mirror_folders.specs.Shelf.{Put, HasPut, RecordsRead}
use Rattle.copy_reader.specs.WholeCopies.{HasFilesOf}
use Rattle.copy_follow.specs.Copies.{IsCopy}
use Rattle.copy_follow.specs.Moments.{CopyStays, InTheEnd, IsBroughtTo}
use Rattle.copy_follow.specs.Pruned.{HadSize, IsGrownPruned, IsPrunedCopy, OfPrunedCopies}
use Rattle.copy_places.specs.Candidates.{IsSame, note_of}
use Rattle.copy_places.specs.declared.candidate.Candidate.{Candidate}
use Rattle.copy_follow.specs.declared.report.Followed.{Followed}
use Rattle.copy_follow.specs.declared.run.Outcome.{Outcome}
use Rattle.copy_follow.specs.declared.run.Outcome.TheVariants as turn

-- the note's text is a checkpoint of the origin, of that size and root
abbrev pub IsHeadOf : List ℕ → Candidate → Type 0
IsHeadOf origin candidate = IsHead (note_of candidate) origin candidate.size.0 candidate.root

-- the number of entries of a copy, 0 if there is none
abbrev pub size_of_copy : Option Candidate → ℕ
size_of_copy None = 0
size_of_copy (Some copy) = copy.size.0

-- the shelf's answer for its checkpoint is that of the copy, or None if there is no copy
abbrev pub IsFoundCopy : List ℕ → Option (List Put) → Option Candidate → Type 0
IsFoundCopy origin puts None = RecordsRead puts Checkpoint None
IsFoundCopy origin puts (Some copy) = RecordsRead puts Checkpoint (Some (note_of copy)) × IsHeadOf origin copy

-- the copy has that note and that number of entries
abbrev pub IsCopyRead : List ℕ → ℕ → Option Candidate → Type 0
IsCopyRead note size None = ⊥
IsCopyRead note size (Some copy) = (note_of copy ≡ note) × (copy.size.0 ≡ size)

-- the shelf records its puts, and has no checkpoint
pub record RecordsNone (puts : Option (List Put)) : Type 0 where
  pub held : List Put
  pub is : puts ≡ Some held
  pub none : ¬ HasPut held Checkpoint

-- the shelf lacks the files of each log with the size and root of the copy
abbrev pub LacksLog : (List ℕ → List ℕ) → Candidate → Option (List Put) → Type 0
LacksLog digest copy puts =
    (entries : List (List ℕ)) → length entries ≡ copy.size.0 → mth digest entries ≡ copy.root →
    ¬ HasFilesOf digest entries puts

module _ (digest : List ℕ → List ℕ) (origin : List ℕ) where
  -- under the note of the candidate, the shelf has a copy with its size and root, of entries that begin with these
  pub record StandsUnder (candidate : Candidate) (entries : List (List ℕ)) (puts : List Put) : Type 0 where
    pub more : List (List ℕ)
    pub copy : IsCopy digest origin (note_of candidate) (entries ++ more) puts
    pub size_is : candidate.size.0 ≡ length (entries ++ more)
    pub root_is : candidate.root ≡ mth digest (entries ++ more)

  -- the same for a copy whose partial files may be replaced by full ones
  pub record PrunedUnder (candidate : Candidate) (entries : List (List ℕ)) (puts : List Put) : Type 0 where
    pub more : List (List ℕ)
    pub copy : IsPrunedCopy digest origin (note_of candidate) (entries ++ more) puts
    pub size_is : candidate.size.0 ≡ length (entries ++ more)
    pub root_is : candidate.root ≡ mth digest (entries ++ more)

  -- the shelf has the copy of the run, whose partial files may be replaced by full ones
  pub record IsStanding (copy : Candidate) (puts : Option (List Put)) : Type 0 where
    pub held : List Put
    pub puts_are : puts ≡ Some held
    pub entries : List (List ℕ)
    pub under : PrunedUnder copy entries held

  -- the same, or no checkpoint if there is no copy
  abbrev pub HasStanding : Option Candidate → Option (List Put) → Type 0
  HasStanding None puts = RecordsNone puts
  HasStanding (Some copy) puts = IsStanding copy puts

  -- the shelf recorded neither a copy, not even one whose partial files were replaced, nor that it had no checkpoint
  pub record HoldsNoCopy (puts : Option (List Put)) : Type 0 where
    pub no_copy : (held : List Put) → puts ≡ Some held → (note : List ℕ) (entries : List (List ℕ)) →
        ¬ IsCopy digest origin note entries held
    pub no_pruned : (held : List Put) → puts ≡ Some held → (note : List ℕ) (entries : List (List ℕ)) →
        ¬ IsPrunedCopy digest origin note entries held
    pub not_none : ¬ RecordsNone puts

  -- the shelf recorded no copy of fewer than n entries, nor that it had no checkpoint
  pub record HoldsNoSmaller (n : ℕ) (puts : Option (List Put)) : Type 0 where
    pub no_smaller : (held : List Put) → puts ≡ Some held → (note : List ℕ) (entries : List (List ℕ)) →
        IsPrunedCopy digest origin note entries held → n ≤ length entries
    pub not_none : ¬ RecordsNone puts

  -- at the end the shelf has the copy of the run
  abbrev pub StandsAs : Option Candidate → List (List ℕ) → Option (List Put) → Type 0
  StandsAs None entries new = ⊥
  StandsAs (Some copy) entries new = InTheEnd new (StandsUnder copy entries)

  -- the same for a copy whose partial files may be replaced
  abbrev pub PrunedAs : Option Candidate → List (List ℕ) → Option (List Put) → Type 0
  PrunedAs None entries new = ⊥
  PrunedAs (Some copy) entries new = InTheEnd new (PrunedUnder copy entries)

  -- at the end the shelf has no checkpoint, or the copy of the run
  abbrev pub StandsOrNone : Option Candidate → Option (List Put) → Type 0
  StandsOrNone None new = InTheEnd new (λ now. ¬ HasPut now Checkpoint)
  StandsOrNone (Some copy) new = InTheEnd new (StandsUnder copy [])

  -- the copy of the run is on the shelf: it is the old copy, or one grown from it
  pub record IsCopyOfRun (old new : Option (List Put)) (copy : Option Candidate) : Type 0 where
    pub some : (held : List Put) → old ≡ Some held → (note : List ℕ) (entries : List (List ℕ)) →
        IsCopy digest origin note entries held → StandsAs copy entries new
    pub pruned : (held : List Put) → old ≡ Some held → (note : List ℕ) (entries : List (List ℕ)) →
        IsPrunedCopy digest origin note entries held → PrunedAs copy entries new
    pub none : (held : List Put) → old ≡ Some held → ¬ HasPut held Checkpoint → StandsOrNone copy new

  -- the copy that was read is the shelf's. It is None if there was no checkpoint
  pub record HadCopy (old : Option (List Put)) (copy : Option Candidate) : Type 0 where
    pub some : (held : List Put) → old ≡ Some held → (note : List ℕ) (entries : List (List ℕ)) →
        IsCopy digest origin note entries held → IsCopyRead note (length entries) copy
    pub pruned : (held : List Put) → old ≡ Some held → (note : List ℕ) (entries : List (List ℕ)) →
        IsPrunedCopy digest origin note entries held → IsCopyRead note (length entries) copy
    pub none : (held : List Put) → old ≡ Some held → ¬ HasPut held Checkpoint → copy ≡ None

  -- at the end the shelf has the old copy, under its note, also if partial files were replaced. If there was no checkpoint, there is
  -- none
  pub record EachStays (old new : Option (List Put)) : Type 0 where
    pub whole : CopyStays digest origin old new
    pub pruned : OfPrunedCopies digest origin old
        (λ held note entries. InTheEnd new (IsPrunedCopy digest origin note entries))

  -- at the end the shelf has a copy under the note: grown from the old one, also if partial files were replaced. If there was no
  -- checkpoint, it is a new one
  pub record EachIsBrought (note : List ℕ) (old new : Option (List Put)) : Type 0 where
    pub whole : IsBroughtTo digest origin note old new
    pub pruned : OfPrunedCopies digest origin old
        (λ held old_note entries. InTheEnd new (IsGrownPruned digest origin note entries))

  -- the shelf after the turn of a candidate: if the copy was brought, one under its note, else the old one
  abbrev pub StandsAfter : Candidate → Option (List Put) → Option (List Put) → Outcome → Type 0
  StandsAfter candidate old new turn.Agrees = EachStays old new
  StandsAfter candidate old new turn.Brought = EachIsBrought (note_of candidate) old new
  StandsAfter candidate old new (turn.Forks proof) = EachStays old new
  StandsAfter candidate old new turn.Contradicts = EachStays old new
  StandsAfter candidate old new (turn.NotHad fault) = EachStays old new

  -- the shelf has a copy, of entries that begin with these, and this is its size and root
  pub record HasCopy (point : Option (ℕ × List ℕ)) (entries : List (List ℕ)) (puts : List Put) : Type 0 where
    pub note : List ℕ
    pub more : List (List ℕ)
    pub copy : IsCopy digest origin note (entries ++ more) puts
    pub point_is : point ≡ Some (length (entries ++ more), mth digest (entries ++ more))

  -- the same for a copy whose partial files may be replaced by full ones
  pub record HasPruned (point : Option (ℕ × List ℕ)) (entries : List (List ℕ)) (puts : List Put) : Type 0 where
    pub note : List ℕ
    pub more : List (List ℕ)
    pub copy : IsPrunedCopy digest origin note (entries ++ more) puts
    pub point_is : point ≡ Some (length (entries ++ more), mth digest (entries ++ more))

  -- the shelf has such a copy, or no checkpoint if there is no size and root
  abbrev pub HasCopyOrNone : Option (ℕ × List ℕ) → List Put → Type 0
  HasCopyOrNone None puts = ¬ HasPut puts Checkpoint
  HasCopyOrNone (Some point) puts = HasCopy (Some point) [] puts

  -- at the end the shelf has a copy with the size and root of the answer: the old copy, or one grown from it. The answer has the
  -- old number of entries. Partial files of the old copy may be replaced by full ones. If there was no checkpoint, and the answer has
  -- no copy, there is none
  pub record IsFollowed (old new : Option (List Put)) (followed : Followed) : Type 0 where
    pub had : HadSize digest origin old followed.old
    pub some : (held : List Put) → old ≡ Some held → (note : List ℕ) (entries : List (List ℕ)) →
        IsCopy digest origin note entries held → InTheEnd new (HasCopy followed.copy entries)
    pub pruned : OfPrunedCopies digest origin old
        (λ held note entries. InTheEnd new (HasPruned followed.copy entries))
    pub none : (held : List Put) → old ≡ Some held → ¬ HasPut held Checkpoint →
        InTheEnd new (HasCopyOrNone followed.copy)

-- the copy is that candidate
pub record IsCopyNow (candidate : Candidate) (copy : Option Candidate) : Type 0 where
  pub now : Candidate
  pub is : copy ≡ Some now
  pub same : IsSame candidate now

-- the copy of the run after the turn of a candidate
abbrev pub KnowsAfter : Candidate → Outcome → Option Candidate → Option Candidate → Type 0
KnowsAfter candidate turn.Agrees old new = new ≡ old
KnowsAfter candidate turn.Brought old new = IsCopyNow candidate new
KnowsAfter candidate (turn.Forks proof) old new = new ≡ old
KnowsAfter candidate turn.Contradicts old new = new ≡ old
KnowsAfter candidate (turn.NotHad fault) old new = new ≡ old
