-- The name of a note of a state text.
use Rattle.std.specs.Prelude.{◌≡◌, ℕ, ◌+◌, List, ◌++◌, take, codes}
use Rattle.std.specs.Fmt.{decimal}
use Rattle.tlog_text.specs.Hash.{base64_of}
use Rattle.mirror_model.specs.Heads.{IsHead}
use Rattle.mirror_files.specs.declared.naming.RefusedNote.{RefusedNote}
use Rattle.mirror_files.specs.declared.naming.RefusedNote.TheVariants as refused

-- the name of a checkpoint: its size, and the first three bytes of its root in base64, which are the first four
-- characters of the root's base64
abbrev pub checkpoint_name : ℕ → List ℕ → List ℕ
checkpoint_name size root =
    codes "checkpoint " ++ (decimal size ++ (codes " " ++ (base64_of (take 3 root) ++ codes "..")))

-- the text of a name
abbrev pub note_name : RefusedNote → List ℕ
note_name (refused.Checkpoint size root) = checkpoint_name size root
note_name (refused.Note number) = codes "note " ++ decimal number

-- the name of the note at that index: the size and the root of its checkpoint, for every signer and log. If it is no
-- checkpoint, its name is its number; the first number is 1
abbrev pub NamesNote : ℕ → List ℕ → RefusedNote → Type 0
NamesNote index note (refused.Checkpoint size root) =
    (origin : List ℕ) × IsHead note origin size root
NamesNote index note (refused.Note number) =
    (number ≡ index + 1) × ((origin : List ℕ) (size : ℕ) (root : List ℕ) → ¬ IsHead note origin size root)
