-- Tree heads whose note was opened before: a call that takes or keeps one need not verify it again.
use Rattle.std.specs.Prelude.{◌≡◌, ℕ, List, Bool, true, false, Result, Ok, Err}
use Rattle.signed_note.specs.Keys.{Key}
use Rattle.mirror_model.specs.Complete.{HasEdge}
use Rattle.mirror_model.specs.Heads.{IsHead}
use Rattle.mirror_model.specs.Refusals.{IsOpenCheckpoint}
use Rattle.mirror_model.specs.View.{View}
use Rattle.mirror_model.specs.declared.notes.HeadNote.{HeadNote}
use Rattle.tlog_mirror.specs.Adding.{with_note}

-- the note of the tree head opens under the keys, as that checkpoint, and the checkpoint has that origin
abbrev pub IsOpenUnder : List ℕ → List Key → HeadNote → Type 0
IsOpenUnder origin keys head = IsOpenCheckpoint head.note.bytes origin keys head.checkpoint

-- the note opens under some keys
abbrev pub WasOpened : List ℕ → HeadNote → Type 0
WasOpened origin head = (keys : List Key) × IsOpenUnder origin keys head

-- the text of the note is that checkpoint, and the checkpoint has that origin
abbrev pub SaysHead : List ℕ → HeadNote → Type 0
SaysHead origin head =
    IsHead head.note.bytes origin head.checkpoint.size head.checkpoint.root

-- each answer of keeping a tree head is right: it is kept exactly if its right edge is held
abbrev pub KeepsOpened : {E : Type 0} → (List ℕ → List ℕ) → View → List ℕ → Result Bool E → View →
    Type 0
KeepsOpened digest old note (Ok true) new = HasEdge digest old note × (new ≡ with_note old note)
KeepsOpened digest old note (Ok false) new = (¬ HasEdge digest old note) × (new ≡ old)
KeepsOpened digest old note (Err fault) new = new ≡ old
