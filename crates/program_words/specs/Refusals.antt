-- How the parts of a command are read, one after the other, and what is refused.
use Rattle.std.specs.Prelude.{◌≡◌, None, Result, Ok, Err, Bool, false, true, is_some, ⊤}
use Rattle.program_words.specs.declared.commands.Command.{Command}
use Rattle.program_words.specs.declared.fault.CommandFault.{CommandFault}
use Rattle.program_words.specs.declared.fault.CommandFault.TheVariants.{Help, Words, BadArgument}
use Rattle.program_words.specs.declared.fault.CommandFault.TheVariants.{OutOfMemory}
use Rattle.program_words.specs.declared.refusals.Refusals.{Refusals}

-- the meaning of an answer of the reader of a part: it returns such a part, or there is none
abbrev pub ReadsPart : {X : Type 0} → (X → Type 0) → Result X CommandFault → Type 0
ReadsPart IsSuch (Ok x) = IsSuch x
ReadsPart IsSuch (Err (Help text)) = ⊥
ReadsPart IsSuch (Err (Words text)) = ⊥
ReadsPart {X} IsSuch (Err BadArgument) = (x : X) → ¬ IsSuch x
ReadsPart IsSuch (Err OutOfMemory) = ⊤

-- nothing is refused
abbrev pub no_refusals : Refusals
no_refusals = record { bad = None; out_of_memory = false }

-- nothing was refused so far
pub record IsGood (refusals : Refusals) : Type 0 where
  pub bad : is_some refusals.bad ≡ false
  pub memory : refusals.out_of_memory ≡ false

-- the reader of a part of the options: if nothing is refused after it, nothing was refused before it, and the part is
-- right; if the options have such a part, it notes no bad word
pub record JudgesPart {X : Type 0} (IsSuch : X → Type 0) (before after : Refusals) (x : X) : Type 0 where
  pub good : IsGood after → IsGood before × IsSuch x
  pub bad : (y : X) → IsSuch y → after.bad ≡ before.bad

-- the answer from whether memory was refused and whether a word is bad
abbrev pub judged_by : Bool → Bool → Command → Result Command CommandFault
judged_by true bad command = Err OutOfMemory
judged_by false true command = Err BadArgument
judged_by false false command = Ok command

-- the command that was read, or the fault if something was refused
abbrev pub judged_as : Refusals → Command → Result Command CommandFault
judged_as refusals command = judged_by refusals.out_of_memory (is_some refusals.bad) command
