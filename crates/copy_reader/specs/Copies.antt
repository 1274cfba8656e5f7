-- A copy of a log on a shelf, and the answers of opening it by its checkpoint.
use Rattle.std.specs.Prelude.{◌≡◌, ◌⊎◌, ℕ, List, Option, Some, None, Result, Ok, Err, ⊤}
use Rattle.signed_note.specs.Keys.{Key}
use Rattle.tlog_tiles.specs.declared.paths.Path.TheVariants.{Checkpoint}
use Rattle.mirror_sources.specs.Recorded.{KeepsRecord}
use Rattle.mirror_folders.specs.Shelf.{Put, RecordsRead}
use Rattle.mirror_model.specs.Heads.{IsOpenHead}
use Rattle.mirror_model.specs.Origin.{IsOrigin}
use Rattle.mirror_model.specs.Refusals.{ReadsHead}
use Rattle.mirror_model.specs.declared.fault.TakeFault.{TakeFault}
use Rattle.log_reader.specs.Ways.{Reader}
use Rattle.copy_reader.specs.WholeCopies.{IsDamaged}
use Rattle.copy_reader.specs.declared.fault.CopyFault.{CopyFault}
use Rattle.copy_reader.specs.declared.fault.CopyFault.TheVariants.{BadOrigin, Head, CopyDamaged, ShelfFault, OutOfMemory}

-- nothing was put: the folder was not opened, or its puts were kept
abbrev pub LeavesPuts : (held old new : Option (List Put)) → Type 0
LeavesPuts held old new = (new ≡ old) ⊎ KeepsRecord held new

-- the reason why a note does not open as a checkpoint
abbrev pub RefusesNote : List ℕ → List ℕ → List Key → CopyFault → Type 0
RefusesNote note origin keys BadOrigin = ⊥
RefusesNote note origin keys (Head fault) = ReadsHead note origin keys (Err fault)
RefusesNote note origin keys (CopyDamaged path) = ⊥
RefusesNote note origin keys ShelfFault = ⊥
RefusesNote note origin keys OutOfMemory = ⊤

module _ (origin : List ℕ) (keys : List Key) (held : Option (List Put)) where
  -- the checkpoint is a note that opens under the keys, of that origin, size and root
  pub record HasCheckpoint (size : ℕ) (root : List ℕ) : Type 0 where
    pub note : List ℕ
    pub stands : RecordsRead held Checkpoint (Some note)
    pub opens : IsOpenHead note origin keys size root

  -- the checkpoint is refused for that reason
  pub record RefusesCheckpoint (fault : TakeFault) : Type 0 where
    pub note : List ℕ
    pub stands : RecordsRead held Checkpoint (Some note)
    pub refused : ReadsHead note origin keys (Err fault)

  -- there is no checkpoint
  abbrev pub IsEmptyCopy : Type 0
  IsEmptyCopy = RecordsRead held Checkpoint None

module _ (digest : List ℕ → List ℕ) (origin : List ℕ) (keys : List Key) (held : Option (List Put)) where
  -- the reason why a copy is not read
  abbrev pub IsRefused : CopyFault → Type 0
  IsRefused BadOrigin = ¬ IsOrigin origin
  IsRefused (Head fault) = RefusesCheckpoint origin keys held fault
  IsRefused (CopyDamaged path) = IsDamaged digest origin held
  IsRefused ShelfFault = ⊤
  IsRefused OutOfMemory = ⊤

  -- the fact about the shelf at each answer of opening a copy
  abbrev pub OpensCopy : Result (Option Reader) CopyFault → Type 0
  OpensCopy (Ok (Some reader)) = HasCheckpoint origin keys held reader.edge.size reader.root
  OpensCopy (Ok None) = IsEmptyCopy origin keys held
  OpensCopy (Err fault) = IsRefused fault
