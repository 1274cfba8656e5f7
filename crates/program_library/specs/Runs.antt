-- The answer and the output of a run of the program. Only contracts of private functions cite `FindsKeys`, `JoinsLines`,
-- `ReadsJoined` and `ReadsKeyLines`.
use Rattle.std.specs.Prelude.{◌≡◌, ◌⊎◌, ℕ, List, [], Option, Some, None, Result, Ok, Err, map}
use Rattle.std.specs.Io.KnownBytes.{Keeps}
use Rattle.signed_note.specs.Keys.{Key}
use Rattle.signed_note.specs.KeyFiles.{IsKeyFile, ReadsKeys}
use Rattle.signed_note.specs.declared.key_fault.KeyFileFault.{KeyFileFault}
use Rattle.signed_note.specs.declared.key_line.KeyLine.{KeyLine}
use Rattle.signed_note.specs.Verifiers.{JoinsPins, key_of}
use Rattle.program_io.specs.Named.{NamedFile}
use Rattle.program_io.specs.Named.{ReadsShort, HasContents}
use Rattle.program_io.specs.declared.file_fault.NamedFault.{NamedFault}
use Rattle.program_words.specs.declared.commands.Command.{Command as Order}
use Rattle.program_words.specs.declared.fault.CommandFault.{CommandFault}
use Rattle.program_words.specs.Program.{AsksFor}
use Rattle.program_words.specs.LineReadings.{HasKeys, HasNoKeys, Reads, ReadsKeyFile}
use Rattle.program_library.specs.declared.fault.RunFault.{RunFault}
use Rattle.program_library.specs.declared.fault.RunFault.TheVariants.{Command, KeyFile, KeyLines}
use Rattle.program_io.specs.Moment.{Moment}
use Rattle.program_io.specs.Places.{World}
use Rattle.program_library.specs.Commands.{Executes}

module _ (world : World) (digest : List ℕ → List ℕ) (keys : List Key) (key_bytes : List ℕ)
    (words : List (List ℕ)) (old new : Moment) where
  -- the words are those of a command, and this is its answer
  pub record Obeys (answer : Result ℕ RunFault) : Type 0 where
    pub command : Order
    pub asked : AsksFor words command
    pub done : Executes world digest keys key_bytes old new command answer

  -- the words are those of no command: the answer says so, nothing was written, and no file was changed
  pub record RefusesWords (answer : Result ℕ RunFault) : Type 0 where
    pub fault : CommandFault
    pub answer_is : answer ≡ Err (Command fault)
    pub reads : Reads words (Err fault)
    pub quiet : Keeps old.output new.output
    pub files : new.files ≡ old.files
    pub folders : new.puts ≡ old.puts

  -- the meaning of the answer of a run for the words, the input and the output
  abbrev pub Runs : Result ℕ RunFault → Type 0
  Runs answer = RefusesWords answer ⊎ Obeys answer

-- ---- the key file

-- the result of a failed reader of key files
abbrev pub no_lines : KeyFileFault → Result (List KeyLine) KeyFileFault
no_lines fault = Err fault

-- the result of a reader that found no name of a key file
abbrev pub no_name : CommandFault → Result (Option (List ℕ)) CommandFault
no_name fault = Err fault

-- the result of a file that was not read
abbrev pub no_bytes : NamedFault → Result (List ℕ) NamedFault
no_bytes fault = Err fault

module _ (printed : Option (List NamedFile)) (words : List (List ℕ)) where
  -- the command that the words name has a key file with these bytes, if the files record them
  pub record NamesKeys (bytes : List ℕ) : Type 0 where
    pub name : List ℕ
    pub has : HasKeys words name
    pub tells : HasContents printed name bytes

  -- the command that the words name has a key file, but the file was not read, as the fault says
  pub record LacksKeyFile (fault : NamedFault) : Type 0 where
    pub name : List ℕ
    pub has : HasKeys words name
    pub reads : ReadsShort printed name (no_bytes fault)

  -- the bytes of the key file that the words name; no bytes if the command has no keys
  abbrev pub AreKeyBytes : List ℕ → Type 0
  AreKeyBytes bytes = NamesKeys bytes ⊎ (HasNoKeys words × (bytes ≡ []))

  -- the bytes of the key file are not lines of keys, as the fault says
  pub record LacksKeyLines (fault : KeyFileFault) : Type 0 where
    pub bytes : List ℕ
    pub are_bytes : AreKeyBytes bytes
    pub reads : ReadsKeys bytes (no_lines fault)

  -- the meaning of a fault before the command for the words and their key file; it is never BadArgument, because that is found
  -- after the faults of the key file
  abbrev pub FailsAtKeys : RunFault → Type 0
  FailsAtKeys (Command fault) = ReadsKeyFile words (no_name fault)
  FailsAtKeys (KeyFile fault) = LacksKeyFile fault
  FailsAtKeys (KeyLines fault) = LacksKeyLines fault
  FailsAtKeys other = ⊥

-- the meaning of each answer of the reader of this key file: its bytes, or no bytes if there is no name
abbrev pub FindsKeys : Option (List NamedFile) → Option (List ℕ) → Result (List ℕ) RunFault → Type 0
FindsKeys printed (Some name) (Ok bytes) = HasContents printed name bytes
FindsKeys printed None (Ok bytes) = bytes ≡ []
FindsKeys printed (Some name) (Err (KeyFile fault)) = ReadsShort printed name (no_bytes fault)
FindsKeys printed name (Err other) = ⊥

-- the bytes are those of a key file, and its lines with their pins joined are these
pub record JoinsLines (bytes : List ℕ) (joined : List KeyLine) : Type 0 where
  pub lines : List KeyLine
  pub are_lines : IsKeyFile bytes lines
  pub joins : JoinsPins lines joined

-- the meaning of each answer of the reader of joined lines
abbrev pub ReadsJoined : List ℕ → Result (List KeyLine) KeyFileFault → Type 0
ReadsJoined bytes (Ok joined) = JoinsLines bytes joined
ReadsJoined bytes (Err fault) = ReadsKeys bytes (no_lines fault)

-- the bytes of the key file of that name are not lines of keys, as the fault says
pub record LacksLines (printed : Option (List NamedFile)) (name : Option (List ℕ)) (fault : KeyFileFault) : Type 0 where
  pub bytes : List ℕ
  pub finds : FindsKeys printed name (Ok bytes)
  pub reads : ReadsKeys bytes (no_lines fault)

-- the meaning of each answer of the reader of the key file of that name: its bytes, and its lines with their pins joined
abbrev pub ReadsKeyLines : Option (List NamedFile) → Option (List ℕ) → Result (List ℕ × List KeyLine) RunFault → Type 0
ReadsKeyLines printed name (Ok keys) = FindsKeys printed name (Ok keys.0) × JoinsLines keys.0 keys.1
ReadsKeyLines printed name (Err (KeyFile fault)) = FindsKeys printed name (Err (KeyFile fault))
ReadsKeyLines printed name (Err (KeyLines fault)) = LacksLines printed name fault
ReadsKeyLines printed name (Err other) = ⊥

module _ (world : World) (digest : List ℕ → List ℕ) (words : List (List ℕ)) (old new : Moment)
    (answer : Result ℕ RunFault) where
  -- no keys were found: the answer says so, nothing was written, and no file was changed
  pub record LacksKeys : Type 0 where
    pub fault : RunFault
    pub answer_is : answer ≡ Err fault
    pub finds : FailsAtKeys old.files words fault
    pub quiet : Keeps old.output new.output
    pub files : new.files ≡ old.files
    pub folders : new.puts ≡ old.puts

  -- the run used keys that open the same notes as the keys of the key file's lines
  pub record RunsUnder : Type 0 where
    pub bytes : List ℕ
    pub lines : List KeyLine
    pub joined : List KeyLine
    pub are_bytes : AreKeyBytes old.files words bytes
    pub are_lines : IsKeyFile bytes lines
    pub joins : JoinsPins lines joined
    pub runs : Runs world digest (map key_of joined) bytes words old new answer

  -- the meaning of the answer of a run that begins with the key file: no keys were found, or the run used its keys
  abbrev pub RunsKeyed : Type 0
  RunsKeyed = LacksKeys ⊎ RunsUnder
