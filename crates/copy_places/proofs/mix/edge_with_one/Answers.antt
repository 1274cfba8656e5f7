use Rattle.std.proofs.Common.{◌<◌, length, arith}
use Rattle.copy_places.proofs.Mixing.{mix_among, none_more}
use Rattle.copy_places.proofs.mix.edge_with_one.Goals as goal

pub returns-in-Some-clause-mix : goal.returns-in-Some-clause-mix
returns-in-Some-clause-mix g c =
    let less = c.loop-i-test.true in
    let listed = c.requires.listed in
    let lt : c.loop-i.i < length c.args.given.now = omega (arith, less, listed) in
    mix_among g.H.TreeHash.digest c.args.size c.args.root.now c.args.given.now c.args.j listed c.loop-i.i lt c.index-given-i.result
    c.index-given-j.result c.index-given-i.is c.index-given-j.is c.in-Some.edge (rw c.in-Some.is at c.in_ok-edge.ensures.mix)

pub loop-i-preserved : goal.loop-i-preserved
loop-i-preserved g c =
    let less = c.loop-i-test.true in
    let listed = c.requires.listed in
    let lt : c.loop-i.i < length c.args.given.now = omega (arith, less, listed) in
    none_more g.H.TreeHash.digest c.args.size c.args.root.now c.args.given.now c.args.j listed c.loop-i.i lt c.index-given-i.result
    c.index-given-j.result c.index-given-i.is c.index-given-j.is (rw c.in-None.is at c.in_ok-edge.ensures.none) c.loop-i.invariant

pub returns-clause-none : goal.returns-clause-none
returns-clause-none g c = λ i d lt.
    let past = c.loop-i-test.false in
    c.loop-i.invariant i d (omega (arith, past, lt))
