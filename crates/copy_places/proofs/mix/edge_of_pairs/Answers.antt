use Rattle.std.proofs.Common.{arith}
use Rattle.copy_places.proofs.Mixing.{pairs_more}
use Rattle.copy_places.proofs.mix.edge_of_pairs.Goals as goal

pub loop-j-preserved : goal.loop-j-preserved
loop-j-preserved g c =
    pairs_more g.H.TreeHash.digest c.args.size c.args.root.now c.args.given.now c.loop-j.j c.loop-j.invariant
    (rw c.in-None.is at c.in_ok-edge.ensures.none)

pub returns-clause-none : goal.returns-clause-none
returns-clause-none g c = λ i j d less lt.
    let past = c.loop-j-test.false in c.loop-j.invariant i j d less (omega (arith, past, lt))
