use Rattle.std.proofs.Common.{sym, ◌∙◌}
use Rattle.copy_places.proofs.Lines.{line_there}
use Rattle.copy_places.proofs.fork_line.place_in.Goals as goal

pub returns-in-Equal-clause-there : goal.returns-in-Equal-clause-there
returns-in-Equal-clause-there c =
    line_there c.args.lines.now c.args.line.now c.loop-i.i c.index-lines-i.result c.loop-i-test.true c.index-lines-i.is
    (sym c.cmp_lines.ensures ∙ c.in-Equal.is)
