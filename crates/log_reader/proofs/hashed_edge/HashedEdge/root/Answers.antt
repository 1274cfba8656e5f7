use Rattle.std.proofs.Common.{◌∙◌, ap, arith}
use Rattle.log_reader.specs.Nodes.{hash_below}
use Rattle.log_reader.proofs.EdgeHashes.{below_at}
use Rattle.log_reader.proofs.hashed_edge.HashedEdge.root.Goals as goal

pub returns : goal.returns
returns g c =
    let digest = g.H.TreeHash.digest in
    let inside = c.self.inside in
    c.root_of.ensures c.args.self.now c.requires
    (below_at digest inside.rows 9 8 inside.below.items c.index.result.now c.self.invariant (omega arith) c.index.ensures
    ∙ ap (λ e. hash_below digest e 8) c.self.view_is)
