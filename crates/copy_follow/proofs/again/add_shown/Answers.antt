use Rattle.copy_places.specs.Lines.{IsInSomeLine}
use Rattle.copy_follow.proofs.Looking.{adds_fork}
use Rattle.copy_follow.proofs.Telling.{shown_fork, shown_other}
use Rattle.copy_follow.proofs.again.add_shown.Goals as goal

pub returns-in-Forks-clause-adds : goal.returns-in-Forks-clause-adds
returns-in-Forks-clause-adds c =
    adds_fork c.add_fork.result c.args.copy.now c.args.candidate.now c.args.turn c.in-Forks.proof c.args.forks.now.items
    c.add_fork.new.lines.items c.in-Forks.is c.add_fork.ensures.shows c.add_fork.ensures.kept c.add_fork.ensures.adds

pub returns-in-Forks-clause-tells : goal.returns-in-Forks-clause-tells
returns-in-Forks-clause-tells c =
    shown_fork c.add_fork.result c.add_fork.new.lines.items c.args.candidate.now c.args.turn c.add_fork.ensures.second

pub returns-in_default-clause-tells : goal.returns-in_default-clause-tells
returns-in_default-clause-tells c =
    shown_other c.args.turn (IsInSomeLine c.args.forks.now.items c.args.candidate.now) c.in_default.not-Forks
