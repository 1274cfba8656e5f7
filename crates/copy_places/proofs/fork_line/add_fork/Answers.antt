use Rattle.copy_places.proofs.LineLists.{line_has}
use Rattle.copy_places.proofs.Shown.{fork_added, fork_adds}
use Rattle.copy_places.proofs.fork_line.add_fork.Goals as goal

pub returns-clause-shows : goal.returns-clause-shows
returns-clause-shows c =
    fork_added c.add_line.result c.args.lines.now.items c.add_line.new.lines.items c.in_ok-line.line c.args.first.now
    c.args.second.now c.args.proof c.in_ok-line.ensures.shows c.add_line.ensures.shows

pub returns-clause-first : goal.returns-clause-first
returns-clause-first c =
    line_has c.add_line.result c.add_line.new.lines.items c.in_ok-line.line c.args.first.now c.in_ok-line.ensures.both.0
    c.add_line.ensures.has

pub returns-clause-second : goal.returns-clause-second
returns-clause-second c =
    line_has c.add_line.result c.add_line.new.lines.items c.in_ok-line.line c.args.second.now c.in_ok-line.ensures.both.1
    c.add_line.ensures.has

pub returns-clause-adds : goal.returns-clause-adds
returns-clause-adds c =
    fork_adds c.add_line.result c.args.first.now c.args.second.now c.in_ok-line.line c.args.lines.now.items
    c.add_line.new.lines.items c.in_ok-line.ensures.has c.add_line.ensures.adds
