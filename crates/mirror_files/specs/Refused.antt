-- The note of a state text for which the text is not loaded.
use Rattle.std.specs.Prelude.{ℕ, ◌⊎◌, List, Option}
use Rattle.std.specs.Prelude.{Some, None, Result, Ok, Err, ⊤}
use Rattle.signed_note.specs.Keys.{Key}
use Rattle.mirror_model.specs.Complete.{HasEdge}
use Rattle.tlog_mirror.specs.Restored.{IsOpenNote}
use Rattle.mirror_files.specs.StateText.{Parts}
use Rattle.mirror_files.specs.Content.{listed_notes, listed_view, HasStrings}
use Rattle.mirror_files.specs.Loading.{HasNoCollision}
use Rattle.mirror_files.specs.Loading.{HasBadNote, LacksEdge}
use Rattle.mirror_files.specs.declared.naming.RefusedNote.{RefusedNote}
use Rattle.mirror_files.specs.Naming.{NamesNote}
use Rattle.mirror_files.specs.Opening.{IsFirstNot}

module _ (digest : List ℕ → List ℕ) (origin : List ℕ) (keys : List Key) (bytes : List ℕ) where
  -- the bytes are a state text that is right up to its notes, and that note is the first one that does not open
  pub record RefusesClosed (index : ℕ) (note : List ℕ) : Type 0 where
    pub parts : Parts
    pub has_strings : HasStrings origin bytes parts
    pub is_first : IsFirstNot (IsOpenNote origin keys) (listed_notes parts) index note

  -- the bytes are a state text without a collision, and that note is the first one whose right edge is not held
  pub record RefusesUnheld (index : ℕ) (note : List ℕ) : Type 0 where
    pub parts : Parts
    pub has_no_collision : HasNoCollision digest origin keys bytes parts
    pub is_first :
        IsFirstNot (HasEdge digest (listed_view parts)) (listed_notes parts) index note

  -- a loader refuses the bytes for that note
  abbrev pub Refuses : ℕ → List ℕ → Type 0
  Refuses index note = RefusesClosed index note ⊎ RefusesUnheld index note

  -- no loader refuses the bytes for a note
  pub record RefusesNone : Type 0 where
    pub no_closed : ¬ HasBadNote origin keys bytes
    pub no_unheld : ¬ LacksEdge digest origin keys bytes

  -- the name is that of a note for which a loader refuses the bytes
  pub record RefusesNamed (name : RefusedNote) : Type 0 where
    pub index : ℕ
    pub note : List ℕ
    pub refused : Refuses index note
    pub named : NamesNote index note name

  -- each answer of a finder of that note is right
  abbrev pub FindsRefused : {E : Type 0} → Result (Option RefusedNote) E → Type 0
  FindsRefused (Ok (Some name)) = RefusesNamed name
  FindsRefused (Ok None) = RefusesNone
  FindsRefused (Err memory) = ⊤

  -- the same, with the note's index and bytes; only the contracts of private functions cite this
  abbrev pub FindsAt : {E : Type 0} → Result (Option (ℕ × List ℕ)) E → Type 0
  FindsAt (Ok (Some found)) = Refuses found.0 found.1
  FindsAt (Ok None) = RefusesNone
  FindsAt (Err memory) = ⊤
