use Rattle.std.proofs.Common.{arith}
use Rattle.log_reader.proofs.EdgeHashes.{below_at}
use Rattle.log_reader.proofs.edge_root.edge_hash.Goals as goal

pub returns : goal.returns
returns g c =
    c.root_of.ensures c.args.edge.now c.requires
    (below_at g.H.TreeHash.digest c.args.edge.now 9 8 c.in_ok-below.below.items c.index.result.now c.in_ok-below.ensures (omega arith)
    c.index.ensures)
