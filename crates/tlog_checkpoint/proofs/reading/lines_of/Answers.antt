use Rattle.tlog_checkpoint.proofs.LineLemmas.{lines_of_body, no_lines}
use Rattle.tlog_checkpoint.proofs.reading.lines_of.Goals as goal

pub returns-in_default : goal.returns-in_default
returns-in_default c = no_lines c.args.text.now c.in_default.ensures

pub returns : goal.returns
returns c = rw c.in_ok-parts_of.ensures (lines_of_body c.args.text.now c.in-Some.body.now c.in-Some.ensures)
