use Rattle.mirror_trees.proofs.EdgeSteps.{edge_is}
use Rattle.mirror_trees.proofs.holding.holds_edge.Goals as goal

pub returns : goal.returns
returns g c = edge_is g.H.TreeHash.digest c.args.store.now c.args.size c.args.root.now _ c.holds_edge_from.ensures
