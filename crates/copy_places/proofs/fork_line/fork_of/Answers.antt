use Rattle.std.proofs.Common.{sym, true≢false, ◌∙◌}
use Rattle.copy_places.proofs.Lines.{line_of_other}
use Rattle.copy_places.proofs.fork_line.fork_of.Goals as goal

pub returns-clause-has : goal.returns-clause-has
returns-clause-has c =
    line_of_other c.args.first.now c.args.second.now c.args.proof c.line_of-2.result
    (λ less. true≢false (sym (c.is_before.ensures.less.1 less) ∙ c.if-is_before.false)) c.line_of-2.ensures
