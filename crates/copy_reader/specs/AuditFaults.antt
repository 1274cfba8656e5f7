-- The faults of an audit: their causes, and the facts about the source.
use Rattle.std.specs.Prelude.{◌≡◌, ℕ, List, Option, None, Result, Ok, Err, ⊤}
use Rattle.tlog_tiles.specs.declared.paths.Path.{Path}
use Rattle.tlog_tiles.specs.declared.paths.Path.TheVariants.{Checkpoint}
use Rattle.mirror_model.specs.declared.fault.TakeFault.{TakeFault}
use Rattle.mirror_model.specs.declared.fault.TakeFault.TheVariants as take
use Rattle.mirror_sources.specs.Files.{full_of}
use Rattle.mirror_sources.specs.Recorded.{Rose}
use Rattle.mirror_sources.specs.declared.source.SourceFault.{SourceFault}
use Rattle.mirror_sources.specs.declared.source.SourceFault.TheVariants as source
use Rattle.copy_reader.specs.declared.audit_fault.AuditFault.{AuditFault}
use Rattle.copy_reader.specs.declared.audit_fault.AuditFault.TheVariants.{NoCheckpoint, Head, NoEdge, NoFile, FalseFile, Source, OutOfMemory}

-- the fault of an audit for a refusal of the checkpoint
abbrev pub fault_of_head : TakeFault → AuditFault
fault_of_head (take.Note f) = Head (take.Note f)
fault_of_head (take.Checkpoint f) = Head (take.Checkpoint f)
fault_of_head take.OtherOrigin = Head take.OtherOrigin
fault_of_head take.NoTrustedSignature = Head take.NoTrustedSignature
fault_of_head take.EdgeCount = Head take.EdgeCount
fault_of_head take.EdgeLength = Head take.EdgeLength
fault_of_head take.EdgeMismatch = Head take.EdgeMismatch
fault_of_head take.RowLength = Head take.RowLength
fault_of_head take.BundleShort = Head take.BundleShort
fault_of_head take.BundleLong = Head take.BundleLong
fault_of_head take.Collision = Head take.Collision
fault_of_head take.OutOfMemory = OutOfMemory

-- the fault of an audit for a fault of the source
abbrev pub fault_of_source : SourceFault → AuditFault
fault_of_source source.Failed = Source
fault_of_source source.OutOfMemory = OutOfMemory

-- an audit ends by Source only if the source's number of failures rose, or is at its maximum
abbrev pub BlamesPlace : {T : Type 0} → ℕ → ℕ → Result T AuditFault → Type 0
BlamesPlace old new (Ok x) = new ≡ old
BlamesPlace old new (Err NoCheckpoint) = new ≡ old
BlamesPlace old new (Err (Head f)) = new ≡ old
BlamesPlace old new (Err NoEdge) = new ≡ old
BlamesPlace old new (Err (NoFile path)) = new ≡ old
BlamesPlace old new (Err (FalseFile path)) = new ≡ old
BlamesPlace old new (Err Source) = Rose old new
BlamesPlace old new (Err OutOfMemory) = new ≡ old

-- the source may have answered that it lacks the file and its full file
pub record MayLack (may : Path → Option (List ℕ) → Type 0) (path : Path) : Type 0 where
  pub none : may path None
  pub full : may (full_of path) None

-- at a fault about a missing file, the source may have answered that it lacks the file
abbrev pub IsForAbsence : (Path → Option (List ℕ) → Type 0) → AuditFault → Type 0
IsForAbsence may NoCheckpoint = may Checkpoint None
IsForAbsence may (Head f) = ⊤
IsForAbsence may NoEdge = (path : Path) × MayLack may path
IsForAbsence may (NoFile path) = MayLack may path
IsForAbsence may (FalseFile path) = ⊤
IsForAbsence may Source = ⊤
IsForAbsence may OutOfMemory = ⊤

-- the source failed, or memory was refused
abbrev pub IsFailure : AuditFault → Type 0
IsFailure NoCheckpoint = ⊥
IsFailure (Head f) = ⊥
IsFailure NoEdge = ⊥
IsFailure (NoFile path) = ⊥
IsFailure (FalseFile path) = ⊥
IsFailure Source = ⊤
IsFailure OutOfMemory = ⊤

-- a call gave a result as claimed, unless the source failed or memory was refused
abbrev pub GivesTrue : {T : Type 0} → Result T AuditFault → (T → Type 0) → Type 0
GivesTrue (Ok x) claim = claim x
GivesTrue (Err fault) claim = IsFailure fault
