use Rattle.std.proofs.Common.{◌+◌, ◌≤◌}
use Rattle.tlog_proof.specs.Steps.{HasBlocks}
use Rattle.tlog_proof.proofs.check.to_block.Given as goal

abbrev pub invariant-loop-node : goal.invariant-loop-node
invariant-loop-node l = record { within : l.node ≤ l.end; blocks : HasBlocks (l.last + 1) (l.index + 1) l.node l.end }

abbrev pub decreases-loop-node : goal.decreases-loop-node
decreases-loop-node l = l.node
