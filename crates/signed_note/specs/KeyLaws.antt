-- Laws of the definitions.
use Rattle.std.specs.Prelude.{◌≡◌}
use Rattle.tlog_text.specs.Answers.{HasOneAnswer}
use Rattle.signed_note.specs.KeyFiles.{ReadsKeys}
use Rattle.signed_note.specs.declared.key_limits.TheConstants.{MAX_TEXT_LEN, MAX_NAME_LEN, MAX_SECRET_LEN}
use Rattle.signed_note.specs.declared.key_fault.KeyFileFault.TheVariants.{OutOfMemory}

-- reading bytes as a key file has one answer, apart from OutOfMemory
abbrev pub OneKeyAnswer : Type 0
OneKeyAnswer = HasOneAnswer OutOfMemory ReadsKeys

-- the limits of this crate: the lengths of a text to sign, of a key's name and of a secret in bytes
pub record HasKeyLimits : Type 0 where
  pub text : MAX_TEXT_LEN ≡ 900000
  pub name : MAX_NAME_LEN ≡ 255
  pub secret : MAX_SECRET_LEN ≡ 64
