-- Command lines as `clap` describes them: their options, and the parts that commands share.
-- `Commands` has the commands themselves.
use Rattle.std.specs.Prelude.{Some, true, codes}
use Rattle.clap.specs.Words.{App, Rule, Text, new_app, new_rule, with_rule}
use Rattle.clap.specs.declared.builder.action.ArgAction.TheVariants.{Append, Set, SetTrue}

-- ---- options

-- an argument with one value
abbrev pub argument_rule : Text → Rule
argument_rule name = record (new_rule name) { value_names = 1 }

-- `[--NAME VALUE]`, an option that may be missing
abbrev pub choice_rule : Text → Rule
choice_rule name = record (argument_rule name) { long = Some name; action = Some Set }

-- `--NAME VALUE`, an option that must be given
abbrev pub option_rule : Text → Rule
option_rule name = record (choice_rule name) { required = true }

-- `VALUE`, a word without an option name, which must be given
abbrev pub place_rule : Text → Rule
place_rule name = record (argument_rule name) { action = Some Set; required = true }

-- `VALUE...`, any number of words without an option name
abbrev pub list_rule : Text → Rule
list_rule name = record (argument_rule name) { action = Some Append }

-- `VALUE...`, at least one word without an option name
abbrev pub words_rule : Text → Rule
words_rule name = record (list_rule name) { required = true }

-- `[--NAME]`, an option without a value
abbrev pub flag_rule : Text → Rule
flag_rule name = record (new_rule name) { long = Some name; action = Some SetTrue }

-- `[--ahead N]`
abbrev pub ahead_rule : Rule
ahead_rule = choice_rule (codes "ahead")

-- `[--wait SECONDS]`
abbrev pub wait_rule : Rule
wait_rule = choice_rule (codes "wait")

-- `[--progress]`
abbrev pub progress_rule : Rule
progress_rule = flag_rule (codes "progress")

-- ---- commands

-- `NAME --origin O --keys K [--why]`
abbrev pub log_app : Text → App
log_app name =
    with_rule
    (with_rule (with_rule (new_app name) (option_rule (codes "origin"))) (option_rule (codes "keys")))
    (flag_rule (codes "why"))

-- `NAME --origin O --keys K --state S`
abbrev pub held_app : Text → App
held_app name = with_rule (log_app name) (option_rule (codes "state"))

-- `NAME --origin O --keys K --dir D`
abbrev pub copy_app : Text → App
copy_app name = with_rule (log_app name) (option_rule (codes "dir"))

-- `NAME --origin O --keys K (--state S | --dir D)`
abbrev pub state_or_copy_app : Text → App
state_or_copy_app name =
    with_rule (with_rule (log_app name) (choice_rule (codes "state"))) (choice_rule (codes "dir"))

-- `NAME --origin O --keys K --out T`
abbrev pub made_app : Text → App
made_app name = with_rule (log_app name) (option_rule (codes "out"))

-- `NAME --origin O --keys K --state S --dir D`
abbrev pub folder_app : Text → App
folder_app name = with_rule (held_app name) (option_rule (codes "dir"))
