use Rattle.std.proofs.Common.{◌≡◌, IfOk, map, drop}
use Rattle.clap.specs.Words.{App}
use Rattle.program_words.specs.Parser.{IsParserOf, argument_of, with_rules}
use Rattle.program_words.proofs.options_parser.with_arguments.Given as goal

abbrev pub invariant-loop-given : goal.invariant-loop-given
invariant-loop-given l = (a : App) → IfOk l.fn.parser (IsParserOf a) →
    (b : App) × IfOk l.made (IsParserOf b)
    × (with_rules b (map argument_of (drop l.given-index l.arguments)) ≡ with_rules a (map argument_of l.arguments))
