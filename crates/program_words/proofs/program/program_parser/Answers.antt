use Rattle.std.proofs.Common.{◌∙◌, ap, true}
use Rattle.clap.specs.Simple.{App, app_of_fields}
use Rattle.clap.specs.declared.builder.command.Command.{Command}
use Rattle.clap.specs.declared.builder.command.Command.TheOpen.{Command-F}
use Rattle.program_words.proofs.program.program_parser.Goals as goal

pub returns : goal.returns
returns c =
    let globals = λ (f : Command-F Command). f.has_globals in
    let behind_name = λ (a : App). record a { top = record (a.top) { no_binary_name = true } } in
    let with_command = λ (a : App). record a { top = record (a.top) { subcommand_required = true } } in
    let without_help = λ (a : App). record a { top = record (a.top) { disable_help_subcommand = true } } in
    record {
      is_app = ap app_of_fields c.disable_help_subcommand-program.ensures
          ∙ ap without_help (ap app_of_fields c.subcommand_required.ensures
          ∙ ap with_command (ap app_of_fields c.no_binary_name.ensures
          ∙ ap behind_name c.in_ok-named_parser.ensures.is_app));
      local = ap globals c.disable_help_subcommand-program.ensures
          ∙ (ap globals c.subcommand_required.ensures
          ∙ (ap globals c.no_binary_name.ensures ∙ c.in_ok-named_parser.ensures.local));
    }
