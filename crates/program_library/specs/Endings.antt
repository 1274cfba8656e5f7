-- The end of the program: its exit status, and the text on one of its streams. Only contracts of private functions cite
-- `IsFaultLine`.
use Rattle.std.specs.Prelude.{◌≡◌, ◌⊎◌, ℕ, List, [], Option, Result, Ok, Err, codes}
use Rattle.std.specs.Prelude.{string_bytes}
use Rattle.std.specs.Io.KnownBytes.{Appends, Keeps}
use Rattle.byte_streams.specs.Streams.{AppendsPrefix}
use Rattle.program_words.specs.declared.fault.CommandFault.TheVariants.{Help, Words, BadArgument}
use Rattle.program_io.specs.FaultLines.{fault_line}
use Rattle.program_library.specs.declared.fault.RunFault.{RunFault}
use Rattle.program_library.specs.declared.fault.RunFault.TheVariants.{Command}
use Rattle.program_library.specs.declared.ending.Message.{Message}
use Rattle.program_library.specs.declared.ending.Message.TheVariants.{Made, Fixed}
use Rattle.program_library.specs.declared.ending.Stream.{Stream}
use Rattle.program_library.specs.declared.ending.Stream.TheVariants.{Output, Errors}
use Rattle.program_library.specs.declared.ending.ProgramEnd.{ProgramEnd}

-- the bytes of a message
abbrev pub message_bytes : Message → List ℕ
message_bytes (Made text) = string_bytes text
message_bytes (Fixed text) = text.now

-- the line is that of some fault
abbrev pub IsFaultLine : List ℕ → Type 0
IsFaultLine text = (name : List ℕ) × (text ≡ fault_line name)

-- the program ends with this status, and with this text on this stream
pub record IsEnding (status : ℕ) (stream : Stream) (text : List ℕ) (printed : ProgramEnd) : Type 0 where
  pub status_is : printed.status ≡ status
  pub stream_is : printed.stream ≡ stream
  pub text_is : message_bytes printed.text ≡ text

-- the end of the program for each answer of a run
abbrev pub PrintsRun : Result ℕ RunFault → ProgramEnd → Type 0
PrintsRun (Ok status) printed = IsEnding status Output [] printed
PrintsRun (Err (Command (Help text))) printed = IsEnding 0 Output (string_bytes text) printed
PrintsRun (Err (Command (Words text))) printed = IsEnding 2 Errors (string_bytes text) printed
PrintsRun (Err (Command BadArgument)) printed = IsEnding 2 Errors (fault_line (codes "BadArgument")) printed
PrintsRun (Err fault) printed = (name : List ℕ) × IsEnding 1 Errors (fault_line name) printed

-- the complete text was written, and the status does not change
pub record SaysWhole (printed : ProgramEnd) (status : ℕ) (output output' errors errors' : Option (List ℕ))
    : Type 0 where
  pub whole : Appends output output' (message_bytes printed.text)
  pub quiet : Keeps errors errors'
  pub status_is : status ≡ printed.status

-- the text was not written completely; this is reported on standard error, completely or in part
pub record SaysPrefix (printed : ProgramEnd) (status : ℕ) (output output' errors errors' : Option (List ℕ))
    : Type 0 where
  pub front : AppendsPrefix output output' (message_bytes printed.text)
  pub fault : AppendsPrefix errors errors' (fault_line (codes "WriteFault"))
  pub status_is : status ≡ 1

-- the bytes on both streams at the end of the program, and its exit status
abbrev pub PrintsEnding : ProgramEnd → ℕ → Option (List ℕ) → Option (List ℕ) → Option (List ℕ) →
    Option (List ℕ) → Type 0
PrintsEnding printed status output output' errors errors' = (
    (printed.stream ≡ Output)
    × (SaysWhole printed status output output' errors errors'
    ⊎ SaysPrefix printed status output output' errors errors')
    ) ⊎ (
    (printed.stream ≡ Errors) × Keeps output output'
    × AppendsPrefix errors errors' (message_bytes printed.text) × (status ≡ printed.status)
    )
