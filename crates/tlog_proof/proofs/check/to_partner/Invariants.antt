use Rattle.std.proofs.Common.{◌≡◌, ◌<◌, ◌≤◌, ◌%◌}
use Rattle.tlog_proof.specs.Steps.{KeepsIncl, KeepsBoth}
use Rattle.tlog_proof.proofs.check.to_partner.Given as goal

abbrev pub invariant-loop-node : goal.invariant-loop-node
invariant-loop-node l =
    record {
      some : 0 < l.node;
      within : l.node ≤ l.end;
      alone : l.node % 2 ≡ 0 →
          l.node ≡ l.end;
      same : KeepsIncl l.index l.last l.node l.end;
      both : KeepsBoth l.index l.last l.node l.end;
    }

abbrev pub decreases-loop-node : goal.decreases-loop-node
decreases-loop-node l = l.node
