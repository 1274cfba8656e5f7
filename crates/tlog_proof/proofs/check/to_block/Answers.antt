use Rattle.std.proofs.Common.{arith}
use Rattle.tlog_proof.proofs.ClimbLoop.{blocks_more, blocks_first}
use Rattle.tlog_proof.proofs.check.to_block.Goals as goal

pub loop-node-init : goal.loop-node-init
loop-node-init c = record { within = omega arith; blocks = blocks_first c.args.index c.args.last }

pub loop-node-preserved : goal.loop-node-preserved
loop-node-preserved c =
    record {
      within =
          omega arith;
      blocks =
          blocks_more _ _ c.loop-node.node c.loop-node.end c.loop-node-test.true c.loop-node.invariant.blocks;
    }
