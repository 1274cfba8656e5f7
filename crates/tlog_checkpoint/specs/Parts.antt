-- The answers of the steps that read a checkpoint. Only contracts of private functions cite
-- `ReadsCheckpointLines` and `ReadsFields`.
use Rattle.std.specs.Prelude.{◌≡◌, ℕ, ◌<◌, ◌≤◌, List, [], Result, Ok, Err, ⊤}
use Rattle.tlog_shape.specs.declared.TheConstants.{MAX_SIZE}
use Rattle.tlog_checkpoint.specs.declared.Checkpoint.{Checkpoint}
use Rattle.tlog_checkpoint.specs.declared.fault.CheckpointFault.{CheckpointFault}
use Rattle.tlog_checkpoint.specs.declared.fault.CheckpointFault.TheVariants.{TooFewLines, EmptyLine}
use Rattle.tlog_checkpoint.specs.declared.fault.CheckpointFault.TheVariants.{BadSize, SizeTooLarge}
use Rattle.tlog_checkpoint.specs.declared.fault.CheckpointFault.TheVariants.{BadRoot, OutOfMemory}
use Rattle.tlog_checkpoint.specs.Lines.{HasLines}
use Rattle.tlog_text.specs.Number.{IsDecimal}
use Rattle.tlog_text.specs.Hash.{IsHashText}

-- the lines of a text, even if they are few or empty
abbrev pub ReadsCheckpointLines : List ℕ → Result (List (List ℕ)) CheckpointFault → Type 0
ReadsCheckpointLines text (Ok lines) = HasLines text lines
ReadsCheckpointLines text (Err TooFewLines) =
    (lines : List (List ℕ)) → HasLines text lines → lines ≡ []
ReadsCheckpointLines text (Err EmptyLine) = ⊥
ReadsCheckpointLines text (Err BadSize) = ⊥
ReadsCheckpointLines text (Err SizeTooLarge) = ⊥
ReadsCheckpointLines text (Err BadRoot) = ⊥
ReadsCheckpointLines text (Err OutOfMemory) = ⊤

-- the number on the line of the size
abbrev pub ReadsSize : List ℕ → Result ℕ CheckpointFault → Type 0
ReadsSize line (Ok n) = IsDecimal line n × (n ≤ MAX_SIZE)
ReadsSize line (Err BadSize) = (n : ℕ) → ¬ IsDecimal line n
ReadsSize line (Err SizeTooLarge) = (n : ℕ) × IsDecimal line n × (MAX_SIZE < n)
ReadsSize line (Err TooFewLines) = ⊥
ReadsSize line (Err EmptyLine) = ⊥
ReadsSize line (Err BadRoot) = ⊥
ReadsSize line (Err OutOfMemory) = ⊥

-- the hash on the line of the root
abbrev pub ReadsRoot : List ℕ → Result (List ℕ) CheckpointFault → Type 0
ReadsRoot line (Ok root) = IsHashText line root
ReadsRoot line (Err BadRoot) = (root : List ℕ) → ¬ IsHashText line root
ReadsRoot line (Err TooFewLines) = ⊥
ReadsRoot line (Err EmptyLine) = ⊥
ReadsRoot line (Err BadSize) = ⊥
ReadsRoot line (Err SizeTooLarge) = ⊥
ReadsRoot line (Err OutOfMemory) = ⊥

-- the checkpoint of these lines, if no line is empty
abbrev pub ReadsFields :
    List ℕ → List ℕ → List ℕ → List (List ℕ) → Result Checkpoint CheckpointFault → Type 0
ReadsFields origin size root extensions (Ok c) =
    (c.origin ≡ origin) × ReadsSize size (Ok c.size) × IsHashText root c.root
    × (c.extensions ≡ extensions)
ReadsFields origin size root extensions (Err BadSize) = ReadsSize size (Err BadSize)
ReadsFields origin size root extensions (Err SizeTooLarge) = ReadsSize size (Err SizeTooLarge)
ReadsFields origin size root extensions (Err BadRoot) =
    (n : ℕ) × ReadsSize size (Ok n) × ReadsRoot root (Err BadRoot)
ReadsFields origin size root extensions (Err TooFewLines) = ⊥
ReadsFields origin size root extensions (Err EmptyLine) = ⊥
ReadsFields origin size root extensions (Err OutOfMemory) = ⊤
