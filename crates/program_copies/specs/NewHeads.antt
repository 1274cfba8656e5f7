-- A note that gives no checkpoint. Only contracts of private functions cite this.
use Rattle.std.specs.Prelude.{◌≡◌, ℕ, List, map, Option, Some, Err, ⊤}
use Rattle.signed_note.specs.Verifiers.{key_of}
use Rattle.signed_note.specs.declared.key_line.KeyLine.{KeyLine}
use Rattle.tlog_tiles.specs.declared.paths.Path.TheVariants.{Checkpoint}
use Rattle.mirror_model.specs.Heads.{IsHead}
use Rattle.mirror_model.specs.Refusals.{ReadsHead}
use Rattle.mirror_http.specs.declared.fault.HttpFault.TheVariants.{ReadFault, WriteFault, OutOfMemory}
use Rattle.program_copies.specs.declared.keys.KeysFault.{KeysFault}
use Rattle.program_copies.specs.declared.reply_fault.CopyAnswerFault.{CopyAnswerFault}
use Rattle.program_copies.specs.declared.reply_fault.CopyAnswerFault.TheVariants.{Http, CopyDamaged, ShelfFault, Head, KeyFile}

-- the note is not the one that opened last, and the reading of its keys may end so
abbrev pub IsNewUnread : (KeysFault → Type 0) → Option (List ℕ) → List ℕ → KeysFault → Type 0
IsNewUnread MayFail last note fault = (¬ (last ≡ Some note)) × MayFail fault

module _ (AreKeys : List KeyLine → Type 0) (MayFail : KeysFault → Type 0) (origin note : List ℕ) where
  -- the reason: the note is no checkpoint of the origin, does not open under the keys, or could not be judged
  abbrev pub RefusesHead : CopyAnswerFault → Type 0
  RefusesHead (Http ReadFault) = ⊥
  RefusesHead (Http WriteFault) = ⊥
  RefusesHead (Http OutOfMemory) = ⊤
  RefusesHead (CopyDamaged path) = (path ≡ Checkpoint) × ((size : ℕ) (root : List ℕ) → ¬ IsHead note origin size root)
  RefusesHead ShelfFault = ⊥
  RefusesHead (Head fault) = (keys : List KeyLine) × AreKeys keys × ReadsHead note origin (map key_of keys) (Err fault)
  RefusesHead (KeyFile fault) = MayFail fault
