-- Laws for all words of a command line.
use Rattle.std.specs.Prelude.{◌≡◌, ◌⊎◌, List, [], ◌∷◌, map}
use Rattle.clap.specs.Words.{Row, Text}
use Rattle.program_words.specs.declared.commands.Command.{Command}
use Rattle.program_words.specs.Program.{AsksFor, Calls, faults}
use Rattle.program_words.specs.Commands.{Says, command_apps, name_of}

-- the names of the commands
abbrev pub command_names : List Text
command_names = map (λ c. c.top.name) command_apps

-- the text is in the list
abbrev pub IsOneOf : List Text → Text → Type 0
IsOneOf [] text = ⊥
IsOneOf (t ∷ ts) text = (text ≡ t) ⊎ IsOneOf ts text

-- words without a fault name one of the commands
abbrev pub LawfulWordsName : Type 0
LawfulWordsName = (words : List Text) → faults words ≡ []
    → (name : Text) × (options : List Row) × Calls words name options × IsOneOf command_names name

-- if words are those of two commands, both have one name, and the same options are those of both
abbrev pub WordsAskForOneName : Type 0
WordsAskForOneName = (words : List Text) (a b : Command) → AsksFor words a → AsksFor words b
    → (name_of a ≡ name_of b) × (options : List Row) × Says options a × Says options b
