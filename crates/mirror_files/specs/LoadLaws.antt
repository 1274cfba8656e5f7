-- Properties of the answers of loaders, as laws of the definitions.
use Rattle.std.specs.Prelude.{◌≡◌, ◌≢◌, ℕ, List, Result, Ok, Err}
use Rattle.signed_note.specs.Keys.{Key}
use Rattle.node_store.specs.Strings.{Has}
use Rattle.mirror_model.specs.View.{View}
use Rattle.mirror_model.specs.Complete.{IsLawful}
use Rattle.tlog_mirror.specs.Restored.{IsOpenNote}
use Rattle.mirror_files.specs.StateText.{StateText, OldStateText}
use Rattle.mirror_files.specs.Loading.{HasState, Loads}
use Rattle.mirror_files.specs.declared.load_fault.LoadFault.{LoadFault}
use Rattle.mirror_files.specs.declared.load_fault.LoadFault.TheVariants.{ReadFault, OutOfMemory}

-- the answer is about the bytes: no read failed, and memory was not refused
pub record IsOfBytes (answer : Result View LoadFault) : Type 0 where
  pub was_read : answer ≢ Err ReadFault
  pub has_memory : answer ≢ Err OutOfMemory

-- bytes have one answer of a loader, apart from failed reads and OutOfMemory
abbrev pub LoadsHaveOneAnswer : Type 0
LoadsHaveOneAnswer =
    (digest : List ℕ → List ℕ) (origin : List ℕ) (keys : List Key) (bytes : List ℕ)
    (a b : Result View LoadFault) →
    IsOfBytes a → IsOfBytes b → Loads digest origin keys bytes a →
    Loads digest origin keys bytes b → a ≡ b

-- if the bytes are a text of a lawful view of that origin whose notes open under the keys, a loader answers Ok with
-- that view
abbrev pub TextsAreLoaded : Type 0
TextsAreLoaded =
    (digest : List ℕ → List ℕ) (origin : List ℕ) (keys : List Key) (bytes : List ℕ) (v : View) →
    HasState digest origin keys bytes v → (a : Result View LoadFault) → IsOfBytes a →
    Loads digest origin keys bytes a → a ≡ Ok v

-- loading a saved text gives the same view, under keys that open all held notes
abbrev pub SavedIsLoaded : Type 0
SavedIsLoaded =
    (digest : List ℕ → List ℕ) (keys : List Key) (v : View) (bytes : List ℕ) → IsLawful digest v →
    ((note : List ℕ) → Has v.notes note → IsOpenNote v.origin keys note) → StateText v bytes →
    (a : Result View LoadFault) → IsOfBytes a → Loads digest v.origin keys bytes a → a ≡ Ok v

-- a view that was loaded from version 1 is saved as version 2 of the same view
abbrev pub OldIsSavedAsNew : Type 0
OldIsSavedAsNew =
    (digest : List ℕ → List ℕ) (origin : List ℕ) (keys : List Key) (v loaded : View)
    (old new saved : List ℕ) →
    HasState digest origin keys old v → OldStateText v old →
    Loads digest origin keys old (Ok loaded) →
    StateText loaded saved → StateText v new → saved ≡ new
