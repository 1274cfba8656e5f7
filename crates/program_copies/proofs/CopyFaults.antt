-- The faults of `entries` for the faults of a copy.
use Rattle.std.proofs.Common.{◌≡◌, ◌≢◌, ℕ, List, Option, Result, Ok, Err, IfErr, subst}
use Rattle.std.specs.Result.{IsErr, IsErrAnd}
use Rattle.signed_note.specs.Keys.{Key}
use Rattle.tlog_tiles.specs.declared.paths.Path.{Path}
use Rattle.tlog_tiles.specs.declared.paths.Path.TheVariants.{Tile}
use Rattle.mirror_sources.specs.Recorded.{KeepsRecord}
use Rattle.mirror_folders.specs.Shelf.{Put, RecordsRead}
use Rattle.log_reader.specs.EdgeRows.{Edge}
use Rattle.log_reader.proofs.FalseFiles.{false_given}
use Rattle.copy_reader.specs.Damage.{NamesDamage, NamesOpenDamage}
use Rattle.copy_reader.proofs.Damage.{damage_exit}
use Rattle.copy_reader.proofs.ShelfSources.{recorded_before}
use Rattle.copy_reader.specs.Copies.{IsRefused}
use Rattle.copy_reader.specs.WholeCopies.{IsOfShelf, IsShelfFailure}
use Rattle.copy_reader.specs.Faults.{CountsFault as CountsRefused, CountsRead}
use Rattle.copy_reader.specs.declared.fault.CopyFault.{CopyFault}
use Rattle.copy_reader.specs.declared.fault.CopyFault.TheVariants.{BadOrigin, Head, CopyDamaged, ShelfFault, OutOfMemory}
use Rattle.program_copies.specs.Copied.{by_copy, CountsFault, IsOfFiles, IsUndamaged, NamesFalseIn, RefusesCopy}
use Rattle.program_copies.specs.declared.entries_fault.CopyEntriesFault.{CopyEntriesFault}
use Rattle.program_copies.specs.declared.entries_fault.CopyEntriesFault.TheVariants as entries

module _ (digest : List ℕ → List ℕ) (origin : List ℕ) (keys : List Key) (held : Option (List Put)) where
  refuses : (fault : CopyFault) → IsOfShelf fault → IsRefused digest origin keys held fault →
      NamesOpenDamage digest held origin keys fault → RefusesCopy digest origin keys held (by_copy fault)
  refuses BadOrigin is h d = absurd is
  refuses (Head f) is h d = h
  refuses (CopyDamaged path) is h d = (h, d)
  refuses ShelfFault is h d = tt
  refuses OutOfMemory is h d = tt

  -- the reason why the copy is not opened
  pub refuses_copy : (fault : CopyFault) (answer : CopyEntriesFault) → answer ≡ by_copy fault → IsOfShelf fault →
      IsRefused digest origin keys held fault → NamesOpenDamage digest held origin keys fault →
      RefusesCopy digest origin keys held answer
  refuses_copy fault answer e is h d = rw e (refuses fault is h d)

counts : (old new : ℕ) (fault : CopyFault) → CountsRefused old new fault → CountsFault old new (by_copy fault)
counts old new BadOrigin h = h
counts old new (Head f) h = h
counts old new (CopyDamaged path) h = h
counts old new ShelfFault h = h
counts old new OutOfMemory h = h

-- both faults count the same failures
pub counts_copy : (old new : ℕ) (fault : CopyFault) (answer : CopyEntriesFault) → answer ≡ by_copy fault →
    CountsRefused old new fault → CountsFault old new answer
counts_copy old new fault answer e h = rw e (counts old new fault h)

read_counts : (T : Type 0) (old new : ℕ) (fault : CopyFault) → CountsRead {T = T} old new (Err fault) →
    CountsRefused old new fault
read_counts T old new BadOrigin h = absurd h
read_counts T old new (Head f) h = absurd h
read_counts T old new (CopyDamaged path) h = h
read_counts T old new ShelfFault h = h
read_counts T old new OutOfMemory h = h

pub counts_read : (T : Type 0) (old new : ℕ) (fault : CopyFault) (answer : CopyEntriesFault) → answer ≡ by_copy fault →
    CountsRead {T = T} old new (Err fault) → CountsFault old new answer
counts_read T old new fault answer e h = counts_copy old new fault answer e (read_counts T old new fault h)

read_files : (T : Type 0) (old new : ℕ) (fault : CopyFault) → CountsRead {T = T} old new (Err fault) → IsOfFiles (by_copy fault)
read_files T old new BadOrigin h = absurd h
read_files T old new (Head f) h = absurd h
read_files T old new (CopyDamaged path) h = tt
read_files T old new ShelfFault h = tt
read_files T old new OutOfMemory h = tt

-- a fault of reading a log is one of reading files
pub of_files : (T : Type 0) (old new : ℕ) (fault : CopyFault) (answer : CopyEntriesFault) → answer ≡ by_copy fault →
    CountsRead {T = T} old new (Err fault) → IsOfFiles answer
of_files T old new fault answer e h = rw e (read_files T old new fault h)

module _ (digest : List ℕ → List ℕ) (held : Option (List Put)) (edge : Edge) where
  read_false : (T : Type 0) (old new : ℕ) (fault : CopyFault) → CountsRead {T = T} old new (Err fault) →
      NamesDamage digest held edge fault → NamesFalseIn digest held edge (by_copy fault)
  read_false T old new BadOrigin h d = absurd h
  read_false T old new (Head f) h d = absurd h
  read_false T old new (CopyDamaged path) h d = d
  read_false T old new ShelfFault h d = tt
  read_false T old new OutOfMemory h d = tt

  -- the file that a read names
  pub names_false : (T : Type 0) (old new : ℕ) (fault : CopyFault) (answer : CopyEntriesFault) → answer ≡ by_copy fault →
      CountsRead {T = T} old new (Err fault) → NamesDamage digest held edge fault → NamesFalseIn digest held edge answer
  names_false T old new fault answer e h d = rw e (read_false T old new fault h d)

  -- the same before the reads, which put nothing
  module _ (after : Option (List Put)) (kept : KeepsRecord held after) where
    earlier : (path : Path) → path ≢ Tile 0 0 0 → (answer : Option (List ℕ)) → RecordsRead after path answer →
        RecordsRead held path answer
    earlier path some answer h = recorded_before held after path answer kept h

    false_before : (fault : CopyEntriesFault) → NamesFalseIn digest after edge fault → NamesFalseIn digest held edge fault
    false_before entries.NothingComplete h = tt
    false_before (entries.Head f) h = tt
    false_before (entries.CopyDamaged path) h =
        false_given digest (RecordsRead held) (RecordsRead after) earlier edge path h
    false_before entries.ShelfFault h = tt
    false_before entries.NoSuchSize h = tt
    false_before entries.Backwards h = tt
    false_before entries.WriteFault h = tt
    false_before entries.OutOfMemory h = tt

    pub names_before : {T : Type 0} (result : Result T CopyEntriesFault) → IfErr result (NamesFalseIn digest after edge) →
        IfErr result (NamesFalseIn digest held edge)
    names_before (Ok x) h = tt
    names_before (Err fault) h = false_before fault h

    -- a fault that was passed on, of a reader with this edge
    pub names_exit : {T : Type 0} (now : Edge) → now ≡ edge → (fault : CopyEntriesFault) (result : Result T CopyEntriesFault) →
        IsErr result × IsErrAnd result (λ f. f ≡ fault) → NamesFalseIn digest after now fault →
        IfErr result (NamesFalseIn digest held edge)
    names_exit now same fault result is h =
        damage_exit (NamesFalseIn digest held edge) result fault is
        (false_before fault (subst (λ e. NamesFalseIn digest after e fault) same h))

undamaged : (fault : CopyFault) → IsShelfFailure fault → IsUndamaged (by_copy fault)
undamaged BadOrigin h = absurd h
undamaged (Head f) h = absurd h
undamaged (CopyDamaged path) h = absurd h
undamaged ShelfFault h = tt
undamaged OutOfMemory h = tt

-- if the shelf failed, or memory was refused, the fault is not CopyDamaged
pub undamaged_answer : (fault : CopyFault) (answer : CopyEntriesFault) → answer ≡ by_copy fault → IsShelfFailure fault →
    IsUndamaged answer
undamaged_answer fault answer e h = rw e (undamaged fault h)
