use Rattle.std.proofs.Common.{None}
use Rattle.program_copies.proofs.Answering.{body_of}
use Rattle.program_copies.proofs.body.copy_body.Goals as goal

pub returns-in-Ok-clause-body : goal.returns-in-Ok-clause-body
returns-in-Ok-clause-body g c =
    let held = g.D.Shelf.puts c.args.shelf.now in
    rw c.in-None.is
    (body_of (λ body. body.items) g.H.TreeHash.digest c.args.origin.now held None c.args.resource.now c.in-Ok.body
    (c.in-Ok.ensures.found g.H.TreeHash.digest held) c.in-Ok.ensures.none)
