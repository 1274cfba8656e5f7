-- A copy whose partial files may be replaced by their full ones (C2SP tlog-tiles, "Partial Tiles"), and the effect of a call
-- on it.
use Rattle.std.specs.Prelude.{◌≡◌, ◌⊎◌, ℕ, ◌<◌, List, ◌++◌, length, Option, Some, Result, OnOk, IfErr}
use Rattle.tlog_hash.specs.Tree.{mth}
use Rattle.tlog_tiles.specs.declared.paths.Path.{Path}
use Rattle.tlog_tiles.specs.declared.paths.Path.TheVariants.{Checkpoint}
use Rattle.mirror_model.specs.Heads.{IsHead}
use Rattle.mirror_model.specs.TrueLaws.{AreShort}
use Rattle.mirror_sources.specs.Files.{full_of, width_named}
use Rattle.mirror_sources.specs.Honest.{true_bytes}
use Rattle.mirror_folders.specs.Shelf.{HasPut, Put, Stands}
use Rattle.log_reader.specs.Holding.{GoesOn, IsTreeFile}
use Rattle.copy_follow.specs.Copies.{IsCopy}
use Rattle.copy_follow.specs.Moments.{AtEachMoment, InTheEnd, PutsBeyond}

module _ (digest : List ℕ → List ℕ) (entries : List (List ℕ)) (puts : List Put) where
  -- nothing was put at a partial path, and its full file is on the shelf and begins with the true bytes
  pub record HasGivenWay (path : Path) : Type 0 where
    pub partial : width_named path < 256
    pub gone : ¬ HasPut puts path
    pub full : List ℕ
    pub stands : Stands puts (full_of path) full
    pub begins : GoesOn path (true_bytes digest entries path) full

  -- each tile and bundle of the log is on the shelf with its true bytes, or is a partial file that was replaced by its full one
  abbrev pub EachFileStands : Type 0
  EachFileStands =
      (path : Path) → IsTreeFile (length entries) path →
      Stands puts path (true_bytes digest entries path) ⊎ HasGivenWay path

module _ (digest : List ℕ → List ℕ) (origin : List ℕ) where
  -- the puts are a copy of the entries under the note, whose partial files may be replaced by full ones
  pub record IsPrunedCopy (note : List ℕ) (entries : List (List ℕ)) (puts : List Put) : Type 0 where
    pub short : AreShort entries
    pub is_head : IsHead note origin (length entries) (mth digest entries)
    pub note_stands : Stands puts Checkpoint note
    pub files : EachFileStands digest entries puts

  -- under the note, the shelf has such a copy of entries that begin with these. Each tile and bundle of these is on the shelf, or
  -- was replaced by its full file
  pub record IsGrownPruned (note : List ℕ) (entries : List (List ℕ)) (puts : List Put) : Type 0 where
    pub more : List (List ℕ)
    pub copy : IsPrunedCopy note (entries ++ more) puts
    pub kept : EachFileStands digest entries puts

  -- the effect of a call on an old copy, for each answer. At each moment the shelf has the old copy, or one grown from it. At Ok it
  -- has the grown copy at the end, else the old one. No file of the old copy is put again
  pub record KeepsPruned (note old_note : List ℕ) (entries : List (List ℕ)) (held : List Put) (new : Option (List Put))
      {T E : Type 0} (result : Result T E) : Type 0 where
    pub moments : AtEachMoment held new
        (λ now. IsPrunedCopy old_note entries now ⊎ IsGrownPruned note entries now)
    pub beyond : PutsBeyond (length entries) held new
    pub brought : OnOk result (InTheEnd new (IsGrownPruned note entries))
    pub stays : IfErr result (λ _. InTheEnd new (IsPrunedCopy old_note entries))

  -- "so" holds for each such copy on a shelf that records its puts
  abbrev pub OfPrunedCopies : Option (List Put) → (List Put → List ℕ → List (List ℕ) → Type 0) → Type 0
  OfPrunedCopies puts so =
      (held : List Put) → puts ≡ Some held → (note : List ℕ) (entries : List (List ℕ)) →
      IsPrunedCopy note entries held → so held note entries

  -- a call that brings a copy to the note keeps each such copy
  abbrev pub LeavesPruned : {T E : Type 0} → List ℕ → Option (List Put) → Option (List Put) → Result T E → Type 0
  LeavesPruned note old new result =
      OfPrunedCopies old (λ held old_note entries. KeepsPruned note old_note entries held new result)

  -- each such copy had that number of entries
  abbrev pub HadPruned : Option (List Put) → ℕ → Type 0
  HadPruned old size = OfPrunedCopies old (λ held note entries. size ≡ length entries)

-- the number of entries of the old copy: 0 if there was no checkpoint
pub record HadSize (digest : List ℕ → List ℕ) (origin : List ℕ) (old : Option (List Put)) (size : ℕ) : Type 0 where
  pub copy : (held : List Put) → old ≡ Some held → (note : List ℕ) (entries : List (List ℕ)) →
      IsCopy digest origin note entries held → size ≡ length entries
  pub pruned : (held : List Put) → old ≡ Some held → (note : List ℕ) (entries : List (List ℕ)) →
      IsPrunedCopy digest origin note entries held → size ≡ length entries
  pub none : (held : List Put) → old ≡ Some held → ¬ HasPut held Checkpoint → size ≡ 0

-- a copy with all its files is such a copy
abbrev pub CopiesArePruned : Type 0
CopiesArePruned =
    (digest : List ℕ → List ℕ) (origin note : List ℕ) (entries : List (List ℕ)) (puts : List Put) →
    IsCopy digest origin note entries puts → IsPrunedCopy digest origin note entries puts
