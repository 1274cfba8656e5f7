-- The answer for a text: its checkpoint, or the first refusal that applies.
use Rattle.std.specs.Prelude.{ℕ, ◌<◌, ◌≤◌, List, [], length, Result, Ok, Err, ⊤}
use Rattle.std.specs.List.{Contains}
use Rattle.tlog_shape.specs.declared.TheConstants.{MAX_SIZE}
use Rattle.tlog_checkpoint.specs.declared.Checkpoint.{Checkpoint}
use Rattle.tlog_checkpoint.specs.declared.fault.CheckpointFault.{CheckpointFault}
use Rattle.tlog_checkpoint.specs.declared.fault.CheckpointFault.TheVariants.{TooFewLines, EmptyLine}
use Rattle.tlog_checkpoint.specs.declared.fault.CheckpointFault.TheVariants.{BadSize, SizeTooLarge}
use Rattle.tlog_checkpoint.specs.declared.fault.CheckpointFault.TheVariants.{BadRoot, OutOfMemory}
use Rattle.tlog_checkpoint.specs.Lines.{HasLines}
use Rattle.tlog_text.specs.Number.{IsDecimal}
use Rattle.tlog_text.specs.Hash.{IsHashText}
use Rattle.tlog_checkpoint.specs.Grammar.{HasFields, IsCheckpoint}

-- The text has fewer than three lines, or bytes after the last newline. In the second case it has
-- no list of lines.
abbrev pub HasTooFewLines : List ℕ → Type 0
HasTooFewLines text = (lines : List (List ℕ)) → HasLines text lines → length lines < 3

-- The text has three lines or more, and one of them is empty.
pub record HasEmptyLine (text : List ℕ) : Type 0 where
  pub lines : List (List ℕ)
  pub has_lines : HasLines text lines
  pub enough : 3 ≤ length lines
  pub has_empty : Contains lines []

-- The line of the size is not a number.
pub record HasBadSize (text : List ℕ) : Type 0 where
  pub origin : List ℕ
  pub size_line : List ℕ
  pub root_line : List ℕ
  pub extensions : List (List ℕ)
  pub fields : HasFields text origin size_line root_line extensions
  pub no_size : (n : ℕ) → ¬ IsDecimal size_line n

-- The size is a number over the greatest size, however many digits it has.
pub record HasLargeSize (text : List ℕ) : Type 0 where
  pub origin : List ℕ
  pub size_line : List ℕ
  pub root_line : List ℕ
  pub extensions : List (List ℕ)
  pub fields : HasFields text origin size_line root_line extensions
  pub size : ℕ
  pub has_size : IsDecimal size_line size
  pub too_large : MAX_SIZE < size

-- The size is in range, but the line of the root is not a hash.
pub record HasBadRoot (text : List ℕ) : Type 0 where
  pub origin : List ℕ
  pub size_line : List ℕ
  pub root_line : List ℕ
  pub extensions : List (List ℕ)
  pub fields : HasFields text origin size_line root_line extensions
  pub size : ℕ
  pub has_size : IsDecimal size_line size
  pub in_range : size ≤ MAX_SIZE
  pub no_root : (root : List ℕ) → ¬ IsHashText root_line root

-- The answer may be given for the text. OutOfMemory may be given for any text.
abbrev pub ReadsCheckpoint : List ℕ → Result Checkpoint CheckpointFault → Type 0
ReadsCheckpoint text (Ok c) = IsCheckpoint text c.origin c.size c.root c.extensions
ReadsCheckpoint text (Err TooFewLines) = HasTooFewLines text
ReadsCheckpoint text (Err EmptyLine) = HasEmptyLine text
ReadsCheckpoint text (Err BadSize) = HasBadSize text
ReadsCheckpoint text (Err SizeTooLarge) = HasLargeSize text
ReadsCheckpoint text (Err BadRoot) = HasBadRoot text
ReadsCheckpoint text (Err OutOfMemory) = ⊤
