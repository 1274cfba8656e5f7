use Rattle.std.proofs.Common.{◌≡◌, ◌≤◌, ◌+◌, ◌-◌, ◌/◌, ◌^◌}
use Rattle.tlog_shape.proofs.edge.tile_of_node.Given as goal

abbrev pub invariant-loop-rest : goal.invariant-loop-rest
invariant-loop-rest l =
    record { rest_is : l.rest ≡ (l.size - 1) / 256 ^ (l.level + 1); above : 256 ^ l.level ≤ l.size - 1 }

abbrev pub decreases-loop-rest : goal.decreases-loop-rest
decreases-loop-rest l = l.rest
