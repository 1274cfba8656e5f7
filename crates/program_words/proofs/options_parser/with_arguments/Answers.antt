use Rattle.std.proofs.Common.{◌≡◌, ◌∙◌, ℕ, ◌+◌, ◌<◌, List, length, map, drop, get_or, refl, sym, subst, IfOk}
use Rattle.std.proofs.lemmas.List.{at_drop_all, at_drop_more}
use Rattle.clap.specs.Words.{App, with_rule}
use Rattle.program_words.specs.Parser.{IsParserOf, argument_of, with_rules}
use Rattle.program_words.specs.declared.line.Argument.{Argument}
use Rattle.program_words.proofs.options_parser.with_arguments.Goals as goal

-- one more argument was added, and one fewer is left
one_more : (app whole : App) (arguments : List Argument) (i : ℕ) (given : Argument) → i < length arguments →
    with_rules app (map argument_of (drop i arguments)) ≡ whole →
    with_rules (with_rule app (argument_of (get_or arguments i given))) (map argument_of (drop (i + 1) arguments)) ≡ whole
one_more app whole arguments i given more before =
    sym (at_drop_more (λ l. with_rules app (map argument_of l)) arguments i given more) ∙ before

pub loop-given-init : goal.loop-given-init
loop-given-init c = λ a is. (a, is, refl)

pub loop-given-preserved : goal.loop-given-preserved
loop-given-preserved c = λ a is.
    let before = c.loop-given.invariant a is in (
      _,
      c.with_argument-made.ensures before.0 before.1,
      one_more before.0 _ c.args.arguments.now c.loop-given.given-index _ c.loop-given-test.true before.2,
    )

pub returns : goal.returns
returns c = λ a is.
    let before = c.loop-given.invariant a is in
    let none = at_drop_all (λ l. with_rules before.0 (map argument_of l)) c.args.arguments.now c.loop-given.given-index
    c.loop-given-test.false in
    subst (λ (app : App). IfOk c.loop-given.made (IsParserOf app)) (sym none ∙ before.2) before.1
