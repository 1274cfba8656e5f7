use Rattle.copy_follow.proofs.Lacking.{none_there}
use Rattle.copy_follow.proofs.mend.lacks.Goals as goal

pub returns-else-branch-clause-missing : goal.returns-else-branch-clause-missing
returns-else-branch-clause-missing g c = λ yes.
    none_there (g.D.Shelf.puts c.args.shelf.now) c.args.path.now _ c.in_ok-has.ensures.answer c.if-branch.false
