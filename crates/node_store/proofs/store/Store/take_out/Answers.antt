use Rattle.std.proofs.Common.{[], take}
use Rattle.std.proofs.lemmas.List.{take_more}
use Rattle.node_store.proofs.Rests.{rest_none, rest_more, rest_no_clash, rest_tagged}
use Rattle.node_store.proofs.store.Store.take_out.Goals as goal

pub loop-digest-init : goal.loop-digest-init
loop-digest-init g c = rest_none g.H.TreeHash.digest c.args.self.now

pub loop-digest-preserved : goal.loop-digest-preserved
loop-digest-preserved g c =
    rw (take_more c.args.digests.now c.loop-digest.digest-index [] c.loop-digest-test.true)
    (rest_more g.H.TreeHash.digest c.args.self.now c.loop-digest.self c.take_one.new.self
    (take c.loop-digest.digest-index c.args.digests.now) _ c.loop-digest.invariant c.take_one.ensures)

pub returns-clause-no_clash : goal.returns-clause-no_clash
returns-clause-no_clash g c =
    rest_no_clash g.H.TreeHash.digest c.args.self.now c.loop-digest.self _ c.keyed-own.ensures.no_clash
    c.loop-digest.invariant

pub returns-clause-tagged : goal.returns-clause-tagged
returns-clause-tagged g c =
    rest_tagged g.H.TreeHash.digest c.args.self.now c.loop-digest.self _ c.keyed-own.ensures.tagged
    c.loop-digest.invariant
