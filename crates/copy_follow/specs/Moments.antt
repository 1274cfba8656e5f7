-- The content of a shelf at each moment of a call that brings a copy to a checkpoint, and at the end.
use Rattle.std.specs.Prelude.{◌≡◌, ◌⊎◌, ℕ, All, List, [], ◌++◌, length, Option, Some, None}
use Rattle.tlog_tiles.specs.declared.paths.Path.TheVariants.{Checkpoint}
use Rattle.tlog_tiles.specs.Tiles.{IsWithin}
use Rattle.mirror_sources.specs.Recorded.{AddsToRecord}
use Rattle.mirror_folders.specs.Shelf.{Put, HasPut}
use Rattle.mirror_folders.specs.Holding.{IsMoment}
use Rattle.mirror_folders.specs.Holding.{HoldsFiles}
use Rattle.copy_follow.specs.Copies.{IsCopy}

-- "so" holds at each moment of a call that puts file after file
abbrev pub AtEachMoment : List Put → Option (List Put) → (List Put → Type 0) → Type 0
AtEachMoment old None so = ⊥
AtEachMoment old (Some new) so = (now : List Put) → IsMoment old new now → so now

-- "so" holds for the puts at the end
abbrev pub InTheEnd : Option (List Put) → (List Put → Type 0) → Type 0
InTheEnd None so = ⊥
InTheEnd (Some new) so = so new

-- no file that was put since is a file of a log of n entries or fewer
pub record PutsBeyond (n : ℕ) (held : List Put) (new : Option (List Put)) : Type 0 where
  pub puts : List Put
  pub recorded : AddsToRecord (Some held) new puts
  pub are_beyond : All (λ put. ¬ IsWithin n put.0) puts

module _ (digest : List ℕ → List ℕ) (origin note : List ℕ) where
  -- under the note, the shelf has a copy of entries that begin with these. Each file of these entries, except the checkpoint, has
  -- its true bytes
  pub record IsGrownCopy (entries : List (List ℕ)) (puts : List Put) : Type 0 where
    pub more : List (List ℕ)
    pub copy : IsCopy digest origin note (entries ++ more) puts
    pub kept : HoldsFiles digest entries puts

  -- at each moment of a call that brings a copy to the note: if a copy was on the shelf, it is still there, or a copy grown from it
  -- under the note. If there was no checkpoint, there is none, or there is a copy under the note. No file of the old copy is put
  -- again
  pub record KeepsCopy (old new : Option (List Put)) : Type 0 where
    pub copy : (held : List Put) → old ≡ Some held → (old_note : List ℕ) (entries : List (List ℕ)) →
        IsCopy digest origin old_note entries held →
        AtEachMoment held new (λ now. IsCopy digest origin old_note entries now ⊎ IsGrownCopy entries now)
    pub none : (held : List Put) → old ≡ Some held → ¬ HasPut held Checkpoint →
        AtEachMoment held new (λ now. ¬ HasPut now Checkpoint ⊎ IsGrownCopy [] now)
    pub beyond : (held : List Put) → old ≡ Some held → (old_note : List ℕ) (entries : List (List ℕ)) →
        IsCopy digest origin old_note entries held → PutsBeyond (length entries) held new
    pub beyond_none : (held : List Put) → old ≡ Some held → ¬ HasPut held Checkpoint → PutsBeyond 0 held new

  -- at the end the shelf has a copy under the note: grown from the old one or, if there was no checkpoint, a new one
  pub record IsBroughtTo (old new : Option (List Put)) : Type 0 where
    pub copy : (held : List Put) → old ≡ Some held → (old_note : List ℕ) (entries : List (List ℕ)) →
        IsCopy digest origin old_note entries held → InTheEnd new (IsGrownCopy entries)
    pub none : (held : List Put) → old ≡ Some held → ¬ HasPut held Checkpoint → InTheEnd new (IsGrownCopy [])

-- at the end the shelf has the old copy, under its note. If there was no checkpoint, there is none
pub record CopyStays (digest : List ℕ → List ℕ) (origin : List ℕ) (old new : Option (List Put)) : Type 0 where
  pub copy : (held : List Put) → old ≡ Some held → (note : List ℕ) (entries : List (List ℕ)) →
      IsCopy digest origin note entries held → InTheEnd new (IsCopy digest origin note entries)
  pub none : (held : List Put) → old ≡ Some held → ¬ HasPut held Checkpoint →
      InTheEnd new (λ now. ¬ HasPut now Checkpoint)
