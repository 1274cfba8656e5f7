-- The grammar of a checkpoint's text (C2SP tlog-checkpoint, "Note text"): a relation between a
-- whole text and its values.
use Rattle.std.specs.Prelude.{◌≡◌, ◌≢◌, ℕ, ◌≤◌, List, [], ◌∷◌}
use Rattle.std.specs.List.{AllByRecursion}
use Rattle.tlog_shape.specs.declared.TheConstants.{MAX_SIZE}
use Rattle.tlog_checkpoint.specs.declared.Checkpoint.{Checkpoint}
use Rattle.tlog_checkpoint.specs.Lines.{IsTextLine, text_of}
use Rattle.tlog_text.specs.Number.{IsDecimal}
use Rattle.tlog_text.specs.Hash.{IsHashText}

-- a line that is not empty
pub record IsFullLine (line : List ℕ) : Type 0 where
  pub not_empty : line ≢ []
  pub is_line : IsTextLine line

-- The text has at least three lines, and no line is empty.
pub record HasFields (text origin size root : List ℕ) (extensions : List (List ℕ)) : Type 0 where
  pub is_text : text ≡ text_of (origin ∷ size ∷ root ∷ extensions)
  pub are_full : AllByRecursion IsFullLine (origin ∷ size ∷ root ∷ extensions)

-- The text is the checkpoint with this origin, size, root and list of extension lines.
pub record IsCheckpoint (text origin : List ℕ) (size : ℕ) (root : List ℕ)
    (extensions : List (List ℕ)) : Type 0 where
  pub size_line : List ℕ
  pub root_line : List ℕ
  pub fields : HasFields text origin size_line root_line extensions
  pub has_size : IsDecimal size_line size
  pub in_range : size ≤ MAX_SIZE
  pub has_root : IsHashText root_line root

-- The checkpoint can be written: its origin and extensions are lines and not empty, and its size is
-- in range.
pub record IsWritableCheckpoint (checkpoint : Checkpoint) : Type 0 where
  pub origin : IsFullLine checkpoint.origin
  pub size : checkpoint.size ≤ MAX_SIZE
  pub extensions : AllByRecursion IsFullLine checkpoint.extensions
