-- The forks of a view, as they are written line by line.
use Rattle.std.specs.Prelude.{◌≢◌, ◌↔◌, List, [], ℕ, Option, Bool, IsTrue, Result, Ok, Err}
use Rattle.std.specs.Io.KnownBytes.{Appends, Keeps}
use Rattle.byte_streams.specs.Streams.{AppendsPrefix}
use Rattle.byte_streams.specs.declared.fault.StreamFault.{StreamFault}
use Rattle.byte_streams.specs.declared.fault.StreamFault.TheVariants.{ReadFault, WriteFault}
use Rattle.byte_streams.specs.declared.fault.StreamFault.TheVariants.{OutOfMemory}
use Rattle.mirror_model.specs.Texts.{IsForksText}
use Rattle.mirror_model.specs.View.{View}

module _ (digest : List ℕ → List ℕ) (v : View) (old new : Option (List ℕ)) where
  -- the complete text of the forks was written, and the answer says whether there is a fork
  pub record WritesForksWhole (any : Bool) : Type 0 where
    pub text : List ℕ
    pub is_text : IsForksText digest v text
    pub written : Appends old new text
    pub tells : IsTrue any ↔ (text ≢ [])

  -- a write failed, and a prefix of the text of the forks was written
  pub record WritesForksPrefix : Type 0 where
    pub text : List ℕ
    pub is_text : IsForksText digest v text
    pub written : AppendsPrefix old new text

  -- each answer of a writer of the forks is right about the view and about the written bytes
  abbrev pub WritesForks : Result Bool StreamFault → Type 0
  WritesForks (Ok any) = WritesForksWhole any
  WritesForks (Err WriteFault) = WritesForksPrefix
  WritesForks (Err OutOfMemory) = Keeps old new
  WritesForks (Err ReadFault) = ⊥
