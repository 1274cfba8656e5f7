-- The faults of a read for the faults of a source.
use Rattle.std.specs.Prelude.{◌≡◌, ℕ, Option, None, Some, Result, Ok, Err, ⊤}
use Rattle.tlog_tiles.specs.declared.paths.Path.{Path}
use Rattle.mirror_sources.specs.Recorded.{one_more}
use Rattle.mirror_sources.specs.declared.source.SourceFault.{SourceFault}
use Rattle.mirror_sources.specs.declared.source.SourceFault.TheVariants as source
use Rattle.log_reader.specs.declared.fault.ReadFault.{ReadFault}
use Rattle.log_reader.specs.declared.fault.ReadFault.TheVariants.{NoFile, FalseFile, Collision, Source, OutOfMemory}

abbrev pub by_source : SourceFault → ReadFault
by_source source.Failed = Source
by_source source.OutOfMemory = OutOfMemory

-- the fault of a read is Source exactly if the source's number of failures rose, by one
abbrev pub CountsFailure : {T : Type 0} → ℕ → ℕ → Result T ReadFault → Type 0
CountsFailure old new (Ok x) = new ≡ old
CountsFailure old new (Err (NoFile path)) = new ≡ old
CountsFailure old new (Err (FalseFile path)) = new ≡ old
CountsFailure old new (Err Collision) = new ≡ old
CountsFailure old new (Err Source) = new ≡ one_more old
CountsFailure old new (Err OutOfMemory) = new ≡ old

-- the fault names a file for which that holds. It is no collision
abbrev pub NamesFile : (Path → Type 0) → ReadFault → Type 0
NamesFile Is (NoFile path) = Is path
NamesFile Is (FalseFile path) = Is path
NamesFile Is Collision = ⊥
NamesFile Is Source = ⊤
NamesFile Is OutOfMemory = ⊤

-- the source failed, or memory was refused
abbrev pub IsFailure : ReadFault → Type 0
IsFailure = NamesFile (λ path. ⊥)

-- the fault of a read whose file is false, or for which memory was refused
abbrev pub found_in : {T E : Type 0} → Result (Option T) E → Path → Result T ReadFault
found_in (Ok (Some x)) path = Ok x
found_in (Ok None) path = Err (FalseFile path)
found_in (Err fault) path = Err OutOfMemory
