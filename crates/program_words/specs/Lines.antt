-- All that the words of a command line say.
use Rattle.std.specs.Prelude.{◌≡◌, List, Ok, Err, IsSome, IsTrue, ◌↔◌, option_map}
use Rattle.clap.specs.Words.{Text}
use Rattle.program_words.specs.declared.fault.CommandFault.TheVariants.{BadArgument}
use Rattle.program_words.specs.declared.reading.Line.{Line}
use Rattle.program_words.specs.LineReadings.{AsksWhy, Reads, ReadsKeyFile}

-- the words name this key file, or none; they have the option `--why` or not; and they are those of this command, or of none for
-- this reason
pub record IsLine (words : List Text) (line : Line) : Type 0 where
  pub keys : ReadsKeyFile words (Ok (option_map (λ name. name.now) line.keys))
  pub why : IsTrue line.why ↔ AsksWhy words
  pub command : Reads words line.command

-- if the command is refused for the spelling, the range or the fit of its words, the line names a bad one
abbrev pub NamesBad : Line → Type 0
NamesBad line = line.command ≡ Err BadArgument → IsSome line.bad
