use Rattle.std.proofs.Common.{◌≡◌, IfOk, map, drop}
use Rattle.clap.specs.Words.{App}
use Rattle.program_words.specs.Parser.{IsParserOf, line_app}
use Rattle.program_words.specs.Program.{with_commands}
use Rattle.program_words.proofs.program.with_commands.Given as goal

abbrev pub invariant-loop-line : goal.invariant-loop-line
invariant-loop-line l = (a : App) → IfOk l.fn.parser (IsParserOf a) →
    (b : App) × IfOk l.made (IsParserOf b)
    × (with_commands b (map (λ line. line_app line.now) (drop l.line-index l.lines))
    ≡ with_commands a (map (λ line. line_app line.now) l.lines))
