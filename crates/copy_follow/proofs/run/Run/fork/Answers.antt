use Rattle.std.proofs.Common.{◌≢◌, None}
use Rattle.copy_follow.proofs.Adding.{fork_adds, line_added}
use Rattle.copy_follow.proofs.Shown.{fork_added}
use Rattle.copy_follow.proofs.run.Run.fork.Goals as goal

pub returns-in-Some-clause-shows : goal.returns-in-Some-clause-shows
returns-in-Some-clause-shows c =
    fork_added c.add_fork.result c.args.self.now.forks.items _ c.args.self.now.copy _ c.args.candidate.now c.args.proof
    c.in-Some.is c.add_fork.ensures.shows

pub returns-in-Some-clause-lines : goal.returns-in-Some-clause-lines
returns-in-Some-clause-lines c =
    line_added c.add_fork.result c.args.self.now.forks.items c.add_fork.new.lines.items c.args.candidate.now
    (c.args.self.now.copy ≢ None) c.add_fork.ensures.kept c.add_fork.ensures.second

pub returns-in-Some-clause-adds : goal.returns-in-Some-clause-adds
returns-in-Some-clause-adds c =
    fork_adds c.add_fork.result c.args.self.now.copy c.in-Some.copy c.args.candidate.now c.args.self.now.forks.items
    c.add_fork.new.lines.items c.in-Some.is c.add_fork.ensures.adds
