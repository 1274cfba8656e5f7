use Rattle.std.proofs.Common.{◌∙◌, ap}
use Rattle.clap.specs.Simple.{app_of_fields}
use Rattle.clap.specs.declared.builder.command.Command.{Command}
use Rattle.clap.specs.declared.builder.command.Command.TheOpen.{Command-F}
use Rattle.program_words.proofs.options_parser.command.Goals as goal

pub returns : goal.returns
returns c =
    let globals = λ (f : Command-F Command). f.has_globals in
    record {
      is_app = ap app_of_fields c.after_long_help.ensures
          ∙ (ap app_of_fields c.after_help.ensures ∙ (ap app_of_fields c.about.ensures ∙ c.new.ensures.app));
      local = ap globals c.after_long_help.ensures
          ∙ (ap globals c.after_help.ensures ∙ (ap globals c.about.ensures ∙ c.new.ensures.local));
    }
