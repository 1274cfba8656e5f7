-- The checkpoint of a note that opens.
use Rattle.std.proofs.Common.{◌≡◌, ℕ, List, Option, Some, refl}
use Rattle.signed_note.specs.Keys.{Key}
use Rattle.tlog_tiles.specs.declared.paths.Path.TheVariants.{Checkpoint as Head_path}
use Rattle.mirror_folders.specs.Shelf.{Put, RecordsRead}
use Rattle.copy_reader.specs.Copies.{IsRefused, RefusesNote}
use Rattle.copy_reader.specs.Faults.{CountsFault}
use Rattle.copy_reader.specs.WholeCopies.{IsOfShelf}
use Rattle.copy_reader.specs.declared.fault.CopyFault.{CopyFault}
use Rattle.copy_reader.specs.declared.fault.CopyFault.TheVariants.{BadOrigin, Head, CopyDamaged, ShelfFault, OutOfMemory}
use Rattle.tlog_checkpoint.specs.declared.Checkpoint.{Checkpoint}
use Rattle.mirror_model.specs.Heads.{IsOpenHead}
use Rattle.mirror_model.specs.Refusals.{IsOpenCheckpoint}
use Rattle.mirror_model.proofs.RefusedHeads.{open_heads_are_read}

-- the note opens as a checkpoint of this size and root
pub opened_head : (note origin : List ℕ) (keys : List Key) (checkpoint : Checkpoint) →
    IsOpenCheckpoint note origin keys checkpoint → IsOpenHead note origin keys checkpoint.size checkpoint.root
opened_head note origin keys checkpoint is =
    (open_heads_are_read note origin keys checkpoint.size checkpoint.root).1
    (record { checkpoint = checkpoint; is_open = is; size_is = refl; root_is = refl })

-- ---- the fault of a note that is the copy's checkpoint

module _ (note origin : List ℕ) (keys : List Key) where
  pub note_refused : (digest : List ℕ → List ℕ) (held : Option (List Put)) → RecordsRead held Head_path (Some note) →
      (fault : CopyFault) → RefusesNote note origin keys fault → IsRefused digest origin keys held fault
  note_refused digest held stands BadOrigin h = absurd h
  note_refused digest held stands (Head fault) h = record { note = note; stands = stands; refused = h }
  note_refused digest held stands (CopyDamaged path) h = absurd h
  note_refused digest held stands ShelfFault h = absurd h
  note_refused digest held stands OutOfMemory h = tt

  pub note_counts : (old new : ℕ) → new ≡ old → (fault : CopyFault) → RefusesNote note origin keys fault →
      CountsFault old new fault
  note_counts old new same BadOrigin h = same
  note_counts old new same (Head fault) h = same
  note_counts old new same (CopyDamaged path) h = same
  note_counts old new same ShelfFault h = absurd h
  note_counts old new same OutOfMemory h = same

  pub note_of_shelf : (fault : CopyFault) → RefusesNote note origin keys fault → IsOfShelf fault
  note_of_shelf BadOrigin h = absurd h
  note_of_shelf (Head fault) h = tt
  note_of_shelf (CopyDamaged path) h = absurd h
  note_of_shelf ShelfFault h = absurd h
  note_of_shelf OutOfMemory h = tt
