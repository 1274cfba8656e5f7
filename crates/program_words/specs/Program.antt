-- The command line of the program: its commands as subcommands, and the words that ask for one.
use Rattle.std.specs.Prelude.{◌≡◌, List, [], ◌∷◌, Some, true, codes}
use Rattle.clap.specs.Words.{App, Kinds, Row, Text, fault_of, subcommand_of, with_subcommand}
use Rattle.clap.specs.Simple.{new_shape}
use Rattle.program_words.specs.Commands.{Says, audit_app, build_app, check_app, command_apps, compare_app, follow_app}
use Rattle.program_words.specs.Commands.{forks_app, merge_app, missing_app, name_of, pull_app, root_app, status_app}
use Rattle.program_words.specs.Commands.{take_app}
use Rattle.program_words.specs.declared.commands.Command.{Command}

-- the program with its version
abbrev pub named_app : App
named_app = record {
  top = record (new_shape (codes "tlogmirror")) { has_version = true };
  subs = [];
}

-- the same program, whose words begin after its name and must include a command
abbrev pub program_app : App
program_app = record {
  top = record (named_app.top) {
    no_binary_name = true;
    disable_help_subcommand = true;
    subcommand_required = true;
  };
  subs = [];
}

-- the command line with these commands as subcommands, in this order
abbrev pub with_commands : App → List App → App
with_commands app [] = app
with_commands app (c ∷ cs) = with_commands (with_subcommand app c.top) cs

-- the program with the first of its commands; only private contracts cite this and the next
abbrev pub first_app : App
first_app =
    with_commands program_app (root_app ∷ check_app ∷ build_app ∷ take_app ∷ merge_app ∷ pull_app ∷ [])

-- the program with the next commands too
abbrev pub second_app : App
second_app =
    with_commands first_app (follow_app ∷ audit_app ∷ status_app ∷ missing_app ∷ forks_app ∷ compare_app
    ∷ [])

-- the names of the first commands, and those of the first two parts
abbrev pub first_names : List Text
first_names =
    codes "root" ∷ codes "check" ∷ codes "build" ∷ codes "take" ∷ codes "merge" ∷ codes "pull" ∷ []

abbrev pub second_names : List Text
second_names =
    codes "follow" ∷ codes "audit" ∷ codes "status" ∷ codes "missing" ∷ codes "forks"
    ∷ codes "compare" ∷ first_names

-- the program with its commands
abbrev pub mirror_app : App
mirror_app = with_commands program_app command_apps

-- the faults of the words as a command line, or their request for help or the version; empty if there are none
abbrev pub faults : List Text → Kinds
faults words = fault_of mirror_app words

-- the words are a command line: they name a command with these options
pub record Calls (words : List Text) (name : Text) (options : List Row) : Type 0 where
  pub lawful : faults words ≡ []
  pub named : subcommand_of mirror_app words ≡ Some (name, options)

-- the words are those of this command
abbrev pub AsksFor : List Text → Command → Type 0
AsksFor words command =
    (options : List Row) × Calls words (name_of command) options × Says options command
