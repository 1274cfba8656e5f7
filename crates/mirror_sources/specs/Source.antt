-- The effects of the calls of a source.
use Rattle.std.specs.Prelude.{◌≡◌, ◌≤◌, ℕ, List, [], ◌∷◌, length, Option, Some, None, Result, Ok, Err, ⊤}
use Rattle.tlog_tiles.specs.declared.paths.Path.{Path}
use Rattle.mirror_sources.specs.Recorded.{KeepsRecord, AddsToRecord, one_more}
use Rattle.mirror_sources.specs.declared.source.SourceFault.{SourceFault}
use Rattle.mirror_sources.specs.declared.source.SourceFault.TheVariants.{Failed, OutOfMemory}

-- a file: its path and its bytes
abbrev pub File : Type 0
File = Path × List ℕ

-- each get adds its path to the record, unless memory was refused
abbrev pub RecordsGet : {T : Type 0} → Option (List Path) → Option (List Path) → Path →
    Result T SourceFault → Type 0
RecordsGet old new path (Ok x) = AddsToRecord old new (path ∷ [])
RecordsGet old new path (Err Failed) = AddsToRecord old new (path ∷ [])
RecordsGet old new path (Err OutOfMemory) = KeepsRecord old new

-- the count of failures rises by one at each get that failed, and at no other get
abbrev pub CountsGet : {T : Type 0} → ℕ → ℕ → Result T SourceFault → Type 0
CountsGet old new (Ok x) = new ≡ old
CountsGet old new (Err Failed) = new ≡ one_more old
CountsGet old new (Err OutOfMemory) = new ≡ old

-- each answer that the source may give now, it could give before
pub record StaysWithin (old new : Path → Option (List ℕ) → Type 0) : Type 0 where
  pub stays : (path : Path) (answer : Option (List ℕ)) → new path answer → old path answer

-- an answer with bytes has at most the given number of bytes
abbrev pub IsShortAnswer : ℕ → Option (List ℕ) → Type 0
IsShortAnswer most None = ⊤
IsShortAnswer most (Some bytes) = length bytes ≤ most
