use Rattle.program_copies.proofs.Answering.{given_held, last_opened}
use Rattle.program_copies.proofs.answer.body_from_copy.Goals as goal

pub returns-in-Err-clause-blames : goal.returns-in-Err-clause-blames
returns-in-Err-clause-blames g c =
    rw c.kept.view_is at (c.in-Err.ensures.blames g.H.TreeHash.digest c.args.resource.now)

pub returns-clause-given : goal.returns-clause-given
returns-clause-given g c =
    given_held g.H.TreeHash.digest c.args.origin.now (g.D.Shelf.puts c.args.shelf.now)
    (g.D.Shelf.puts c.read_checkpoint.new.shelf) c.in-Ok.ensures.same (λ body. body.items)
    (g.K.CopyKeys.are_keys c.args.keys.now) c.args.kept.now _
    (rw c.kept.view_is at c.in-Ok.ensures.head) c.args.resource.now c.body_under.result c.body_under.ensures.body

pub returns-clause-last : goal.returns-clause-last
returns-clause-last g c =
    last_opened (g.K.CopyKeys.are_keys c.args.keys.now) c.args.origin.now c.args.kept.now _ (g.D.Shelf.puts c.args.shelf.now) _
    (rw c.kept.view_is at c.in-Ok.ensures.head) (rw c.kept.view_is at c.keep_head.ensures)
