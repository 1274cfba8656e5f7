-- The parser of a command line, as `clap` describes it. Only contracts of private functions cite this.
use Rattle.std.specs.Prelude.{◌≡◌, List, [], ◌∷◌, ◌++◌, map, false, codes}
use Rattle.clap.specs.Words.{App, Rule, app_of, new_app, with_rule}
use Rattle.clap.specs.declared.builder.command.Command.{Command as Parser}
use Rattle.clap.specs.declared.builder.command.Command.TheViews.{out-Command}
use Rattle.program_words.specs.App.{choice_rule, flag_rule, list_rule, option_rule, place_rule, words_rule}
use Rattle.program_words.specs.declared.line.Argument.{Argument}
use Rattle.program_words.specs.declared.line.Argument.TheVariants as argument
use Rattle.program_words.specs.declared.line.Base.{Base}
use Rattle.program_words.specs.declared.line.Base.TheVariants as base
use Rattle.program_words.specs.declared.line.CommandLine.{CommandLine}

-- the argument of a table, as `clap` describes it
abbrev pub argument_of : Argument → Rule
argument_of (argument.Option name value help) = option_rule name.now
argument_of (argument.Choice name value help) = choice_rule name.now
argument_of (argument.Flag name help) = flag_rule name.now
argument_of (argument.Place name value help) = place_rule name.now
argument_of (argument.List name value help) = list_rule name.now
argument_of (argument.Words name value help) = words_rule name.now

-- the command with these additional arguments, in this order
abbrev pub with_rules : App → List Rule → App
with_rules app [] = app
with_rules app (r ∷ rs) = with_rules (with_rule app r) rs

-- the options of each command over a log
abbrev pub log_rules : List Rule
log_rules = option_rule (codes "origin") ∷ option_rule (codes "keys") ∷ flag_rule (codes "why") ∷ []

-- the arguments that commands share, as `clap` describes them
abbrev pub base_rules : Base → List Rule
base_rules base.Nothing = []
base_rules base.Log = log_rules
base_rules base.State = log_rules ++ option_rule (codes "state") ∷ []
base_rules base.StateOrCopy = log_rules ++ choice_rule (codes "state") ∷ choice_rule (codes "dir") ∷ []
base_rules base.Output = log_rules ++ option_rule (codes "out") ∷ []

-- the command line, as `clap` describes it
abbrev pub line_app : CommandLine → App
line_app line =
    with_rules (with_rules (new_app line.name.now) (base_rules line.base)) (map argument_of line.arguments.now)

-- the parser is that of the command line, and has no global options
pub record IsParserOf (app : App) (parser : Parser) : Type 0 where
  pub is_app : app_of parser ≡ app
  pub local : (out-Command parser).has_globals ≡ false
