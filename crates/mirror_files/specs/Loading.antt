-- The answers of a loader, about all the bytes: the first refusal that applies, in the order of the faults.
use Rattle.std.specs.Prelude.{◌≡◌, ℕ, ◌⊎◌, List, All, Result}
use Rattle.std.specs.Prelude.{Ok, Err, ⊤}
use Rattle.std.specs.List.{Contains}
use Rattle.signed_note.specs.Keys.{Key}
use Rattle.node_store.specs.Strings.{Has, NoClash}
use Rattle.mirror_model.specs.View.{View}
use Rattle.mirror_model.specs.Strings.{HasClash}
use Rattle.mirror_model.specs.Complete.{HasEdge, IsLawful}
use Rattle.tlog_mirror.specs.Restored.{IsOpenNote}
use Rattle.mirror_files.specs.StateText.{Parts, StateText, OldStateText}
use Rattle.mirror_files.specs.Reading.{ReadsParts}
use Rattle.mirror_files.specs.declared.parts.PartsFault.TheVariants as reading
use Rattle.mirror_files.specs.declared.load_fault.LoadFault.{LoadFault}
use Rattle.mirror_files.specs.declared.load_fault.LoadFault.TheVariants.{StateMagic, StateShort}
use Rattle.mirror_files.specs.declared.load_fault.LoadFault.TheVariants.{StateLong, StateDigest}
use Rattle.mirror_files.specs.declared.load_fault.LoadFault.TheVariants.{OtherOrigin, StateOrder}
use Rattle.mirror_files.specs.declared.load_fault.LoadFault.TheVariants.{StateString, StateHead}
use Rattle.mirror_files.specs.declared.load_fault.LoadFault.TheVariants.{Collision, StateEdge, ReadFault}
use Rattle.mirror_files.specs.declared.load_fault.LoadFault.TheVariants.{OutOfMemory}
use Rattle.mirror_files.specs.Content.{listed_notes, listed_view, HasStrings, IsOfOtherOrigin}
use Rattle.mirror_files.specs.Content.{IsDisordered, HasBadString}

-- a note of the list does not open
pub record HasClosed (origin : List ℕ) (keys : List Key) (notes : List (List ℕ)) : Type 0 where
  pub note : List ℕ
  pub is_listed : Contains notes note
  pub closed : ¬ IsOpenNote origin keys note

module _ (origin : List ℕ) (keys : List Key) (bytes : List ℕ) where
  -- the bytes are a state text of that origin, in order and with strings of trees, and all its notes open
  pub record HasOpenNotes (parts : Parts) : Type 0 where
    pub has_strings : HasStrings origin bytes parts
    pub opened : All (IsOpenNote origin keys) (listed_notes parts)

  -- the bytes are a state text of that origin, in order and with strings of trees, and one of its notes does not open
  pub record HasBadNote : Type 0 where
    pub parts : Parts
    pub has_strings : HasStrings origin bytes parts
    pub has_closed : HasClosed origin keys (listed_notes parts)

-- the right edge of a note of the list is not held
pub record HasUnheld (digest : List ℕ → List ℕ) (v : View) (notes : List (List ℕ)) : Type 0 where
  pub note : List ℕ
  pub is_listed : Contains notes note
  pub lacks : ¬ HasEdge digest v note

module _ (digest : List ℕ → List ℕ) (origin : List ℕ) (keys : List Key) (bytes : List ℕ) where
  -- the bytes are a state text that is right up to its notes, which open, and no two of its strings have one digest
  pub record HasNoCollision (parts : Parts) : Type 0 where
    pub has_open_notes : HasOpenNotes origin keys bytes parts
    pub no_clash : NoClash digest (listed_view parts).strings

  -- the bytes are a state text that is right up to its notes, which open, and two of its strings have one digest
  pub record HasClashing : Type 0 where
    pub parts : Parts
    pub has_open_notes : HasOpenNotes origin keys bytes parts
    pub clash : HasClash digest (listed_view parts).strings

  -- the bytes are a state text without a collision, and the right edge of one of its notes is not held
  pub record LacksEdge : Type 0 where
    pub parts : Parts
    pub has_no_collision : HasNoCollision parts
    pub has_unheld : HasUnheld digest (listed_view parts) (listed_notes parts)

  -- ---- the loaded view

  -- the bytes are a state text, of either version, of a lawful view of that origin, whose notes
  -- open under the keys
  pub record HasState (v : View) : Type 0 where
    pub text : StateText v bytes ⊎ OldStateText v bytes
    pub lawful : IsLawful digest v
    pub origin_is : v.origin ≡ origin
    pub opened : (note : List ℕ) → Has v.notes note → IsOpenNote origin keys note

  -- ---- the answers

  -- each answer of a loader is right about the bytes; a failed read and OutOfMemory say nothing about them
  abbrev pub Loads : Result View LoadFault → Type 0
  Loads (Ok v) = HasState v
  Loads (Err StateMagic) = ReadsParts bytes (Err reading.StateMagic)
  Loads (Err StateShort) = ReadsParts bytes (Err reading.StateShort)
  Loads (Err StateLong) = ReadsParts bytes (Err reading.StateLong)
  Loads (Err StateDigest) = ReadsParts bytes (Err reading.StateDigest)
  Loads (Err OtherOrigin) = IsOfOtherOrigin origin bytes
  Loads (Err StateOrder) = IsDisordered origin bytes
  Loads (Err StateString) = HasBadString origin bytes
  Loads (Err StateHead) = HasBadNote origin keys bytes
  Loads (Err Collision) = HasClashing
  Loads (Err StateEdge) = LacksEdge
  Loads (Err ReadFault) = ⊤
  Loads (Err OutOfMemory) = ⊤
