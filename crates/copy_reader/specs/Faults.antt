-- The faults of a copy for the faults of a shelf and of a read, and how a shelf counts them.
use Rattle.std.specs.Prelude.{◌≡◌, ℕ, Result, Ok, Err, ⊤}
use Rattle.mirror_sources.specs.Recorded.{one_more}
use Rattle.mirror_folders.specs.declared.shelf.ShelfError.{ShelfError}
use Rattle.mirror_folders.specs.declared.shelf.ShelfError.TheVariants as shelf
use Rattle.log_reader.specs.declared.fault.ReadFault.{ReadFault}
use Rattle.log_reader.specs.declared.fault.ReadFault.TheVariants as reading
use Rattle.tlog_tiles.specs.declared.paths.Path.TheVariants.{Checkpoint}
use Rattle.copy_reader.specs.declared.fault.CopyFault.{CopyFault}
use Rattle.copy_reader.specs.declared.fault.CopyFault.TheVariants.{BadOrigin, Head, CopyDamaged, ShelfFault, OutOfMemory}

abbrev pub by_shelf : ShelfError → CopyFault
by_shelf shelf.Failed = ShelfFault
by_shelf shelf.OutOfMemory = OutOfMemory

abbrev pub by_read : ReadFault → CopyFault
by_read (reading.NoFile path) = CopyDamaged path
by_read (reading.FalseFile path) = CopyDamaged path
by_read reading.Collision = CopyDamaged Checkpoint
by_read reading.Source = ShelfFault
by_read reading.OutOfMemory = OutOfMemory

-- the shelf's number of failures rises by one at a ShelfFault, and does not change at any other fault
abbrev pub CountsFault : ℕ → ℕ → CopyFault → Type 0
CountsFault old new BadOrigin = new ≡ old
CountsFault old new (Head fault) = new ≡ old
CountsFault old new (CopyDamaged path) = new ≡ old
CountsFault old new ShelfFault = new ≡ one_more old
CountsFault old new OutOfMemory = new ≡ old

-- the same for an answer
abbrev pub CountsCopy : {T : Type 0} → ℕ → ℕ → Result T CopyFault → Type 0
CountsCopy old new (Ok x) = new ≡ old
CountsCopy old new (Err fault) = CountsFault old new fault

-- the same for an answer of reading files of a log whose checkpoint was read
abbrev pub CountsRead : {T : Type 0} → ℕ → ℕ → Result T CopyFault → Type 0
CountsRead old new (Ok x) = new ≡ old
CountsRead old new (Err BadOrigin) = ⊥
CountsRead old new (Err (Head fault)) = ⊥
CountsRead old new (Err (CopyDamaged path)) = new ≡ old
CountsRead old new (Err ShelfFault) = new ≡ one_more old
CountsRead old new (Err OutOfMemory) = new ≡ old

-- the fault is one of reading files of a log
abbrev pub IsReadFault : CopyFault → Type 0
IsReadFault BadOrigin = ⊥
IsReadFault (Head fault) = ⊥
IsReadFault (CopyDamaged path) = ⊤
IsReadFault ShelfFault = ⊤
IsReadFault OutOfMemory = ⊤
