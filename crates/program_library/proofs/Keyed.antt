-- A run whose words are understood, and a run without keys.
use Rattle.std.proofs.Common.{◌≡◌, ℕ, List, Option, Some, None, Result, Ok, Err, IfOk, inl, inr, refl, subst, sym}
use Rattle.signed_note.specs.Keys.{Key}
use Rattle.signed_note.specs.KeyFiles.{ReadsKeys}
use Rattle.signed_note.specs.declared.key_fault.KeyFileFault.{KeyFileFault}
use Rattle.signed_note.specs.declared.key_line.KeyLine.{KeyLine}
use Rattle.program_io.specs.Named.{NamedFile}
use Rattle.program_words.specs.Lines.{IsLine}
use Rattle.program_words.specs.LineReadings.{Reads, ReadsKeyFile}
use Rattle.program_words.specs.declared.commands.Command.{Command as Order}
use Rattle.program_words.specs.declared.fault.CommandFault.{CommandFault}
use Rattle.program_words.specs.declared.reading.Line.{Line}
use Rattle.program_library.specs.Commands.{IsDoable, IsWriteFault}
use Rattle.program_io.specs.Moment.{Moment}
use Rattle.program_io.specs.Places.{World}
use Rattle.program_io.specs.Performing.{Ends}
use Rattle.program_library.specs.Runs.{AreKeyBytes, FailsAtKeys, FindsKeys, ReadsKeyLines}
use Rattle.program_library.specs.Runs.{Runs, RunsKeyed, no_lines}
use Rattle.program_library.specs.declared.fault.RunFault.{RunFault}
use Rattle.program_library.specs.declared.fault.RunFault.TheVariants.{Command, KeyFile, KeyLines}
use Rattle.program_library.proofs.Doable.{asked_doable}
use Rattle.program_io.proofs.Written.{keeps_itself}

-- the command of a line can be done
doable : (words : List (List ℕ)) (command : Result Order CommandFault) → Reads words command → IfOk command IsDoable
doable words (Ok command) asked = asked_doable words command asked
doable words (Err fault) h = tt

pub line_doable : (words : List (List ℕ)) (line : Line) → IsLine words line → IfOk line.command IsDoable
line_doable words line h = doable words line.command h.command

-- the key file that the words name was read
pub keys_found : (printed : Option (List NamedFile)) (words : List (List ℕ)) (name : Option (List ℕ)) (bytes lent : List ℕ) →
    lent ≡ bytes → ReadsKeyFile words (Ok name) → FindsKeys printed name (Ok bytes) → AreKeyBytes printed words lent
keys_found printed words (Some name) bytes lent same has finds =
    subst (AreKeyBytes printed words) (sym same) (inl record { name = name; has = has; tells = finds })
keys_found printed words None bytes lent same has finds = subst (AreKeyBytes printed words) (sym same) (inr (has, finds))

pub keys_missed : (printed : Option (List NamedFile)) (words : List (List ℕ)) (name : Option (List ℕ)) (fault : RunFault) →
    ReadsKeyFile words (Ok name) → FindsKeys printed name (Err fault) → FailsAtKeys printed words fault
keys_missed printed words (Some name) (KeyFile fault) has reads = record { name = name; has = has; reads = reads }
keys_missed printed words name fault has finds = absurd finds

-- nothing was written, and the run failed
pub nothing_done : (now : Option (List ℕ)) (fault : RunFault) → Ends IsWriteFault now now (Err fault)
nothing_done now fault = record { status = tt; quiet = λ other. keeps_itself now }

module _ (world : World) (digest : List ℕ → List ℕ) (now : Moment) (words : List (List ℕ)) where
  pub keys_lack : (fault : RunFault) → FailsAtKeys now.files words fault →
      RunsKeyed world digest words now now (Err fault)
  keys_lack fault finds =
      inl record {
        fault = fault;
        answer_is = refl;
        finds = finds;
        quiet = keeps_itself now.output;
        files = refl;
        folders = refl;
      }

  pub lines_lack : (bytes : List ℕ) (fault : KeyFileFault) → AreKeyBytes now.files words bytes →
      ReadsKeys bytes (no_lines fault) → RunsKeyed world digest words now now (Err (KeyLines fault))
  lines_lack bytes fault are_bytes reads =
      keys_lack (KeyLines fault) record { bytes = bytes; are_bytes = are_bytes; reads = reads }

  -- the key file was not read, or has a line that is no key
  pub keys_refused : (name : Option (List ℕ)) (fault : RunFault) → ReadsKeyFile words (Ok name) →
      ReadsKeyLines now.files name (Err fault) → RunsKeyed world digest words now now (Err fault)
  keys_refused name (KeyFile fault) has finds =
      keys_lack (KeyFile fault) (keys_missed now.files words name (KeyFile fault) has finds)
  keys_refused name (KeyLines fault) has lacks =
      lines_lack lacks.bytes fault (keys_found now.files words name lacks.bytes lacks.bytes refl has lacks.finds)
      lacks.reads
  keys_refused name fault has finds = absurd finds

  -- the key file has keys, and the words are those of no command
  pub words_refused : (name : Option (List ℕ)) (bytes : List ℕ) (joined : List KeyLine) (fault : CommandFault) →
      ReadsKeyFile words (Ok name) → Reads words (Err fault) → ReadsKeyLines now.files name (Ok (bytes, joined)) →
      RunsKeyed world digest words now now (Err (Command fault))
  words_refused name bytes joined fault has reads finds = inr record {
    bytes = bytes;
    lines = finds.1.lines;
    joined = joined;
    are_bytes = keys_found now.files words name bytes bytes refl has finds.0;
    are_lines = finds.1.are_lines;
    joins = finds.1.joins;
    runs = inl record {
      fault = fault;
      answer_is = refl;
      reads = reads;
      quiet = keeps_itself now.output;
      files = refl;
      folders = refl;
    };
  }

-- a run under an equal list of keys
pub runs_under : (world : World) (digest : List ℕ → List ℕ) (keys all : List Key) (key_bytes : List ℕ) (words : List (List ℕ))
    (old new : Moment) (answer : Result ℕ RunFault) → keys ≡ all →
    Runs world digest keys key_bytes words old new answer → Runs world digest all key_bytes words old new answer
runs_under world digest keys all key_bytes words old new answer same runs =
    subst (λ (ks : List Key). Runs world digest ks key_bytes words old new answer) same runs
