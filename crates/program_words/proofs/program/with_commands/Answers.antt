use Rattle.std.proofs.Common.{◌≡◌, ◌∙◌, ℕ, ◌+◌, ◌<◌, Bor, List, length, map, drop, get_or, refl, sym, subst, IfOk}
use Rattle.std.proofs.lemmas.List.{at_drop_all, at_drop_more}
use Rattle.clap.specs.Words.{App, with_subcommand}
use Rattle.program_words.specs.Parser.{IsParserOf, line_app}
use Rattle.program_words.specs.Program.{with_commands}
use Rattle.program_words.specs.declared.line.CommandLine.{CommandLine}
use Rattle.program_words.proofs.program.with_commands.Goals as goal

apps : List (Bor CommandLine) → List App
apps lines = map (λ line. line_app line.now) lines

-- one more command was added, and one fewer is left
one_more : (app whole : App) (lines : List (Bor CommandLine)) (i : ℕ) (line : Bor CommandLine) → i < length lines →
    with_commands app (apps (drop i lines)) ≡ whole →
    with_commands (with_subcommand app (line_app (get_or lines i line).now).top) (apps (drop (i + 1) lines)) ≡ whole
unfolding apps
one_more app whole lines i line more before =
    sym (at_drop_more (λ l. with_commands app (apps l)) lines i line more) ∙ before

pub loop-line-init : goal.loop-line-init
loop-line-init c = λ a is. (a, is, refl)

pub loop-line-preserved : goal.loop-line-preserved
unfolding apps
loop-line-preserved c = λ a is.
    let before = c.loop-line.invariant a is in (
      _,
      c.with_command-made.ensures before.0 before.1,
      one_more before.0 _ c.args.lines.now c.loop-line.line-index _ c.loop-line-test.true before.2,
    )

pub returns : goal.returns
unfolding apps
returns c = λ a is.
    let before = c.loop-line.invariant a is in
    let none = at_drop_all (λ l. with_commands before.0 (apps l)) c.args.lines.now c.loop-line.line-index
    c.loop-line-test.false in
    subst (λ (app : App). IfOk c.loop-line.made (IsParserOf app)) (sym none ∙ before.2) before.1
