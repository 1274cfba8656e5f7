use Rattle.std.proofs.Common.{arith}
use Rattle.tlog_proof.specs.Inclusion.{hash_right, hash_left}
use Rattle.tlog_proof.specs.Consistency.{both_right, both_left}
use Rattle.tlog_proof.proofs.ClimbLoop.{keeps_more}
use Rattle.tlog_proof.proofs.check.to_partner.Goals as goal

pub loop-node-preserved : goal.loop-node-preserved
loop-node-preserved c =
    let f = c.loop-node.node in
    let s = c.loop-node.end in
    let alone = c.loop-node.invariant.alone c.loop-node-test.true in
    record {
      some = omega arith;
      within = omega arith;
      alone = omega arith;
      same = λ digest. keeps_more (hash_right digest)
          (hash_left digest) c.args.index c.args.last f s c.loop-node-test.true alone
          (c.loop-node.invariant.same digest);
      both = λ digest. keeps_more (both_right digest)
          (both_left digest) c.args.index c.args.last f s c.loop-node-test.true alone
          (c.loop-node.invariant.both digest);
    }
