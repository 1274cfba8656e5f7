-- The meaning of each answer of a reader of a command line. Only contracts of private functions cite what follows `no_keys`,
-- except `AsksWhy`.
use Rattle.std.specs.Prelude.{◌≡◌, ◌≢◌, ◌⊎◌, List, [], Option, Some, None, Result, Ok, Err, codes, ⊤}
use Rattle.clap.specs.Words.{HasMatchesOf, IsAmong, Row, Text, first_of}
use Rattle.clap.specs.declared.parser.matches.ArgMatches.{ArgMatches}
use Rattle.clap.specs.declared.error.kind.ErrorKind.{ErrorKind}
use Rattle.clap.specs.declared.error.kind.ErrorKind.TheVariants as kind
use Rattle.program_words.specs.declared.commands.Command.{Command}
use Rattle.program_words.specs.declared.fault.CommandFault.{CommandFault}
use Rattle.program_words.specs.declared.fault.CommandFault.TheVariants.{Help, Words, BadArgument}
use Rattle.program_words.specs.declared.fault.CommandFault.TheVariants.{OutOfMemory}
use Rattle.program_words.specs.Commands.{Given, HasFlag}
use Rattle.program_words.specs.Program.{AsksFor, Calls, faults, mirror_app}

-- the words are those of no command
abbrev pub AsksNone : List Text → Type 0
AsksNone words = (command : Command) → ¬ AsksFor words command

-- the kind is help or the version
abbrev pub IsHelp : ErrorKind → Type 0
IsHelp k = (k ≡ kind.DisplayHelp) ⊎ (k ≡ kind.DisplayVersion)

-- the meaning of each answer of the reader of a command line for the words
abbrev pub Reads : List Text → Result Command CommandFault → Type 0
Reads words (Ok command) = AsksFor words command
Reads words (Err (Help text)) = (k : ErrorKind) × IsAmong k (faults words) × IsHelp k
Reads words (Err (Words text)) = (k : ErrorKind) × IsAmong k (faults words) × (¬ IsHelp k)
Reads words (Err BadArgument) = (faults words ≡ []) × AsksNone words
Reads words (Err OutOfMemory) = ⊤

-- the words are a command line whose command has this key file
pub record HasKeys (words : List Text) (keys : Text) : Type 0 where
  pub name : Text
  pub options : List Row
  pub calls : Calls words name options
  pub given : Given options (codes "keys") keys

-- the words are a command line whose command has no keys
pub record HasNoKeys (words : List Text) : Type 0 where
  pub name : Text
  pub options : List Row
  pub calls : Calls words name options
  pub given : first_of (codes "keys") options ≡ None

-- the meaning of each answer of the reader of the key file's name for the words; it never finds BadArgument in another option
abbrev pub ReadsKeyFile : List Text → Result (Option Text) CommandFault → Type 0
ReadsKeyFile words (Ok (Some keys)) = HasKeys words keys
ReadsKeyFile words (Ok None) = HasNoKeys words
ReadsKeyFile words (Err (Help text)) = (k : ErrorKind) × IsAmong k (faults words) × IsHelp k
ReadsKeyFile words (Err (Words text)) = (k : ErrorKind) × IsAmong k (faults words) × (¬ IsHelp k)
ReadsKeyFile words (Err BadArgument) = ⊥
ReadsKeyFile words (Err OutOfMemory) = ⊤

-- the result if the words call no command
abbrev pub no_keys : CommandFault → Result (Option Text) CommandFault
no_keys fault = Err fault

-- the words are a command line with the option `--why`
pub record AsksWhy (words : List Text) : Type 0 where
  pub name : Text
  pub options : List Row
  pub calls : Calls words name options
  pub given : HasFlag options (codes "why")

-- the parser finds no fault in the words, and gives these matches
pub record IsMatched (words : List Text) (matches : ArgMatches) : Type 0 where
  pub lawful : faults words ≡ []
  pub matched : HasMatchesOf mirror_app words matches

-- the fault of the program for a fault of the parser
abbrev pub IsFaultOf : ErrorKind → CommandFault → Type 0
IsFaultOf k (Help text) = IsHelp k
IsFaultOf k (Words text) = (k ≢ kind.OutOfMemory) × (¬ IsHelp k)
IsFaultOf k BadArgument = ⊥
IsFaultOf k OutOfMemory = ⊤
