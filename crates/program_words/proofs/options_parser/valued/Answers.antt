use Rattle.std.proofs.Common.{◌∙◌, Some, ap}
use Rattle.clap.specs.Words.{Rule, rule_of}
use Rattle.clap.specs.declared.builder.arg.Arg.{Arg}
use Rattle.program_words.proofs.options_parser.valued.Goals as goal

pub returns-clause-rule : goal.returns-clause-rule
returns-clause-rule c =
    ap rule_of c.action.ensures
    ∙ ap (λ (r : Rule). record r { action = Some c.args.action })
    (ap rule_of c.help.ensures
    ∙ (ap rule_of c.value_name.ensures ∙ ap (λ (r : Rule). record r { value_names = 1 }) c.new.ensures.rule))

pub returns-clause-local : goal.returns-clause-local
returns-clause-local c =
    let globals = λ (a : Arg). a.global in
    ap globals c.action.ensures
    ∙ (ap globals c.help.ensures ∙ (ap globals c.value_name.ensures ∙ c.new.ensures.optional.1))
