-- The faults of a call that looks for a proof.
use Rattle.std.specs.Prelude.{◌≡◌, ℕ, Result, Ok, Err, ⊤}
use Rattle.mirror_sources.specs.Recorded.{one_more}
use Rattle.mirror_folders.specs.declared.shelf.ShelfError.{ShelfError}
use Rattle.mirror_folders.specs.declared.shelf.ShelfError.TheVariants as shelf
use Rattle.copy_places.specs.declared.ask_fault.AskFault.{AskFault}
use Rattle.copy_places.specs.declared.ask_fault.AskFault.TheVariants.{NoFile, ShelfFault, OtherFiles, OutOfMemory}

-- the fault of the call for a fault of the shelf
abbrev pub by_shelf : ShelfError → AskFault
by_shelf shelf.Failed = ShelfFault
by_shelf shelf.OutOfMemory = OutOfMemory

-- the shelf's number of failures rises, by one, exactly at a ShelfFault
abbrev pub CountsAsk : {T : Type 0} → ℕ → ℕ → Result T AskFault → Type 0
CountsAsk old new (Ok x) = new ≡ old
CountsAsk old new (Err NoFile) = new ≡ old
CountsAsk old new (Err ShelfFault) = new ≡ one_more old
CountsAsk old new (Err OtherFiles) = new ≡ old
CountsAsk old new (Err OutOfMemory) = new ≡ old

-- the shelf failed, or memory was refused
abbrev pub IsOfShelf : AskFault → Type 0
IsOfShelf NoFile = ⊥
IsOfShelf ShelfFault = ⊤
IsOfShelf OtherFiles = ⊥
IsOfShelf OutOfMemory = ⊤
