-- A copy that is brought to one note after the other: the content of the shelf at each moment.
use Rattle.std.specs.Prelude.{◌≡◌, ◌⊎◌, ℕ, All, List, [], ◌++◌, length, map, Contains, Option, Some}
use Rattle.tlog_tiles.specs.declared.paths.Path.TheVariants.{Checkpoint}
use Rattle.signed_note.specs.Keys.{Key}
use Rattle.mirror_sources.specs.Recorded.{KeepsRecord}
use Rattle.mirror_folders.specs.Shelf.{Put, HasPut}
use Rattle.copy_follow.specs.Copies.{IsCopy}
use Rattle.copy_follow.specs.Moments.{AtEachMoment, IsGrownCopy, KeepsCopy, PutsBeyond}
use Rattle.copy_follow.specs.Pruned.{IsPrunedCopy, OfPrunedCopies}
use Rattle.copy_places.specs.Candidates.{IsCandidate, note_of}
use Rattle.copy_places.specs.declared.candidate.Candidate.{Candidate}

module _ (digest : List ℕ → List ℕ) (origin : List ℕ) (notes : List (List ℕ)) where
  -- under one of the notes, the shelf has a copy of entries that begin with these. Each file of these entries, except the
  -- checkpoint, has its true bytes
  pub record IsGrownUnder (entries : List (List ℕ)) (puts : List Put) : Type 0 where
    pub note : List ℕ
    pub listed : Contains notes note
    pub grown : IsGrownCopy digest origin note entries puts

  -- at each moment of a run that brings a copy to some of the notes: if a copy was on the shelf, it is still there, or a copy grown
  -- from it under one of the notes. If there was no checkpoint, there is none, or there is a copy under one of the notes. No file
  -- of the old copy is put again
  pub record KeepsCopies (old new : Option (List Put)) : Type 0 where
    pub copy : (held : List Put) → old ≡ Some held → (note : List ℕ) (entries : List (List ℕ)) →
        IsCopy digest origin note entries held →
        AtEachMoment held new (λ now. IsCopy digest origin note entries now ⊎ IsGrownUnder entries now)
    pub none : (held : List Put) → old ≡ Some held → ¬ HasPut held Checkpoint →
        AtEachMoment held new (λ now. ¬ HasPut now Checkpoint ⊎ IsGrownUnder [] now)
    pub beyond : (held : List Put) → old ≡ Some held → (note : List ℕ) (entries : List (List ℕ)) →
        IsCopy digest origin note entries held → PutsBeyond (length entries) held new
    pub beyond_none : (held : List Put) → old ≡ Some held → ¬ HasPut held Checkpoint → PutsBeyond 0 held new

  -- under one of the notes, the shelf has a copy of entries that begin with these. Its partial files may be replaced by full ones
  pub record IsPrunedUnder (entries : List (List ℕ)) (puts : List Put) : Type 0 where
    pub note : List ℕ
    pub listed : Contains notes note
    pub more : List (List ℕ)
    pub copy : IsPrunedCopy digest origin note (entries ++ more) puts

  -- such a run over a copy whose partial files may be replaced: at each moment it is still there, or one grown from it under one of
  -- the notes. No file of the old copy is put again
  pub record KeepsPrunedCopy (old_note : List ℕ) (entries : List (List ℕ)) (held : List Put) (new : Option (List Put))
      : Type 0 where
    pub moments : AtEachMoment held new
        (λ now. IsPrunedCopy digest origin old_note entries now ⊎ IsPrunedUnder entries now)
    pub beyond : PutsBeyond (length entries) held new

  -- this holds for each such copy on the shelf
  abbrev pub KeepsPrunedCopies : Option (List Put) → Option (List Put) → Type 0
  KeepsPrunedCopies old new =
      OfPrunedCopies digest origin old (λ held note entries. KeepsPrunedCopy note entries held new)

  -- a run keeps each copy, with all its files or without replaced ones
  pub record KeepsEach (old new : Option (List Put)) : Type 0 where
    pub whole : KeepsCopies old new
    pub pruned : KeepsPrunedCopies old new

-- a call that brings a copy to the note is such a run for all notes with this one
abbrev pub KeepsUnder : (List ℕ → List ℕ) → List ℕ → List ℕ → Option (List Put) → Option (List Put) → Type 0
KeepsUnder digest origin note old new =
    (notes : List (List ℕ)) → Contains notes note → KeepsEach digest origin notes old new

-- a call that brings a copy to one of the notes is such a run. So is a call that puts nothing, and so are two runs in sequence
pub record RunsKeepCopies : Type 0 where
  pub one : (digest : List ℕ → List ℕ) (origin : List ℕ) (notes : List (List ℕ)) (note : List ℕ)
      (old new : Option (List Put)) → Contains notes note → KeepsCopy digest origin note old new →
      KeepsCopies digest origin notes old new
  pub nothing : (digest : List ℕ → List ℕ) (origin : List ℕ) (notes : List (List ℕ)) (old new : Option (List Put)) →
      KeepsRecord old new → KeepsCopies digest origin notes old new
  pub two : (digest : List ℕ → List ℕ) (origin : List ℕ) (notes : List (List ℕ)) (old mid new : Option (List Put)) →
      KeepsCopies digest origin notes old mid → KeepsCopies digest origin notes mid new →
      KeepsCopies digest origin notes old new

-- at each moment of a run the shelf has the old copy, or one grown from it under the note of a candidate. Partial files of the copy
-- may be replaced by full ones. Each candidate opens, and "so" holds for its note
pub record FollowsCandidates (digest : List ℕ → List ℕ) (origin : List ℕ) (keys : List Key) (so : List ℕ → Type 0)
    (old new : Option (List Put)) : Type 0 where
  pub candidates : List Candidate
  pub opened : All (IsCandidate origin keys) candidates
  pub had : All (λ candidate. so (note_of candidate)) candidates
  pub keeps : KeepsCopies digest origin (map note_of candidates) old new
  pub pruned : KeepsPrunedCopies digest origin (map note_of candidates) old new
