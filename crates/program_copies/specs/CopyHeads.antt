-- The checkpoint of a copy on a shelf: it opens under the keys, or it is the one that opened last.
use Rattle.std.specs.Prelude.{◌≡◌, ◌⊎◌, ℕ, List, map, Option, Some, None}
use Rattle.signed_note.specs.Verifiers.{key_of}
use Rattle.signed_note.specs.declared.key_line.KeyLine.{KeyLine}
use Rattle.tlog_tiles.specs.declared.paths.Path.TheVariants.{Checkpoint}
use Rattle.mirror_folders.specs.Shelf.{Put, RecordsRead}
use Rattle.mirror_model.specs.Heads.{IsHead, IsOpenHead}
use Rattle.mirror_model.specs.declared.fault.TakeFault.{TakeFault}
use Rattle.copy_reader.specs.Copies.{RefusesCheckpoint}
use Rattle.program_copies.specs.declared.keys.KeysFault.{KeysFault}

-- a note, and the size and root in its text
pub record CopyHead : Type 0 where
  pub note : List ℕ
  pub size : ℕ
  pub root : List ℕ

abbrev pub copy_head : List ℕ → ℕ → List ℕ → CopyHead
copy_head note size root = record { note = note; size = size; root = root }

module _ (AreKeys : List KeyLine → Type 0) (origin : List ℕ) where
  -- the note opens under such keys
  pub record OpensNow (head : CopyHead) : Type 0 where
    pub keys : List KeyLine
    pub are_keys : AreKeys keys
    pub opens : IsOpenHead head.note origin (map key_of keys) head.size head.root

  -- the checkpoint on the shelf is refused under such keys
  pub record RefusesNow (held : Option (List Put)) (fault : TakeFault) : Type 0 where
    pub keys : List KeyLine
    pub are_keys : AreKeys keys
    pub refuses : RefusesCheckpoint origin (map key_of keys) held fault

  module _ (last : Option (List ℕ)) where
    -- the note is the one that opened last, or opens now
    abbrev pub HasOpened : CopyHead → Type 0
    HasOpened head = (last ≡ Some head.note) ⊎ OpensNow head

    -- the shelf's content at the checkpoint's path: nothing, or such a note of that origin, size and root
    abbrev pub IsCopyHead : Option (List Put) → Option CopyHead → Type 0
    IsCopyHead held None = RecordsRead held Checkpoint None
    IsCopyHead held (Some head) =
        RecordsRead held Checkpoint (Some head.note)
        × IsHead head.note origin head.size head.root
        × HasOpened head

    -- the note that opened last after a call: the same, or one that opens now
    abbrev pub IsLastOpened : Option (List ℕ) → Type 0
    IsLastOpened new = (new ≡ last) ⊎ ((head : CopyHead) × (new ≡ Some head.note) × OpensNow head)

-- the keys are needed: the checkpoint on the shelf is not the note that opened last
abbrev pub NeedsKeys : Option (List ℕ) → Option (List Put) → Type 0
NeedsKeys last held = (note : List ℕ) × RecordsRead held Checkpoint (Some note) × (¬ (last ≡ Some note))

-- the keys are needed, and their reading may end so
abbrev pub LacksKeys : (KeysFault → Type 0) → Option (List ℕ) → Option (List Put) → KeysFault → Type 0
LacksKeys MayFail last held fault = NeedsKeys last held × MayFail fault
