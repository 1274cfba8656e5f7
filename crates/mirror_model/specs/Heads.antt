-- Tree heads: the checkpoint of a note (C2SP tlog-checkpoint and signed-note).
use Rattle.std.specs.Prelude.{ℕ, List}
use Rattle.signed_note.specs.Notes.{SignatureParts, IsNote, Opens}
use Rattle.signed_note.specs.Keys.{Key}
use Rattle.tlog_checkpoint.specs.Grammar.{IsCheckpoint}
use Rattle.node_store.specs.Strings.{Has}
use Rattle.mirror_model.specs.View.{View}

-- the bytes are a note whose text is a checkpoint with that origin, size and root
pub record IsHead (note origin : List ℕ) (size : ℕ) (root : List ℕ) : Type 0 where
  pub text : List ℕ
  pub lines : List SignatureParts
  pub extensions : List (List ℕ)
  pub is_note : IsNote note text lines
  pub is_checkpoint : IsCheckpoint text origin size root extensions

-- the text of the note is a checkpoint with that origin, size and root, and the note opens under
-- the keys
pub record IsOpenHead (note origin : List ℕ) (keys : List Key) (size : ℕ) (root : List ℕ)
    : Type 0 where
  pub text : List ℕ
  pub lines : List SignatureParts
  pub extensions : List (List ℕ)
  pub is_note : IsNote note text lines
  pub is_checkpoint : IsCheckpoint text origin size root extensions
  pub opens : Opens text lines keys

-- the view holds the note, which is a tree head of that size and root
pub record HoldsHead (v : View) (note : List ℕ) (size : ℕ) (root : List ℕ) : Type 0 where
  pub is_held : Has v.notes note
  pub is_head : IsHead note v.origin size root

-- some note of the view has that size and root
pub record HasHead (v : View) (size : ℕ) (root : List ℕ) : Type 0 where
  pub note : List ℕ
  pub holds : HoldsHead v note size root
