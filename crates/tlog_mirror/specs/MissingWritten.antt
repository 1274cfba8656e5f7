-- The missing paths of a tree head, as they are written path by path.
use Rattle.std.specs.Prelude.{◌≢◌, ◌↔◌, List, [], ℕ, Option, None, Some, Bool, IsTrue, Result, Ok, Err}
use Rattle.std.specs.Io.KnownBytes.{Appends, Keeps}
use Rattle.byte_streams.specs.Streams.{AppendsPrefix}
use Rattle.byte_streams.specs.declared.fault.StreamFault.{StreamFault}
use Rattle.byte_streams.specs.declared.fault.StreamFault.TheVariants.{ReadFault, WriteFault}
use Rattle.byte_streams.specs.declared.fault.StreamFault.TheVariants.{OutOfMemory}
use Rattle.mirror_model.specs.Heads.{HasHead}
use Rattle.mirror_model.specs.Texts.{IsMissingText}
use Rattle.mirror_model.specs.View.{View}

module _ (digest : List ℕ → List ℕ) (v : View) (size : ℕ) (root : List ℕ)
    (old new : Option (List ℕ)) where
  -- the complete text of the missing paths was written, and the answer says whether a path is missing
  pub record WritesMissingWhole (any : Bool) : Type 0 where
    pub text : List ℕ
    pub is_text : IsMissingText digest v size root text
    pub written : Appends old new text
    pub says : IsTrue any ↔ (text ≢ [])

  -- a write failed, and a prefix of that text was written
  pub record WritesMissingPrefix : Type 0 where
    pub text : List ℕ
    pub is_text : IsMissingText digest v size root text
    pub written : AppendsPrefix old new text

  -- no tree head has that size and root, and nothing was written
  pub record WritesNoHead : Type 0 where
    pub none : ¬ HasHead v size root
    pub kept : Keeps old new

  -- each answer of a writer of missing paths is right about the view and about the written bytes
  abbrev pub WritesMissing : Result (Option Bool) StreamFault → Type 0
  WritesMissing (Ok (Some any)) = WritesMissingWhole any
  WritesMissing (Ok None) = WritesNoHead
  WritesMissing (Err WriteFault) = WritesMissingPrefix
  WritesMissing (Err OutOfMemory) = Keeps old new
  WritesMissing (Err ReadFault) = ⊥
