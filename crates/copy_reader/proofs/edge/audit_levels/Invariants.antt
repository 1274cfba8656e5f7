use Rattle.std.proofs.Common.{◌≡◌, ◌-◌}
use Rattle.copy_reader.specs.Edges.{CoversLevels}
use Rattle.copy_reader.specs.Order.{levels_order}
use Rattle.copy_reader.specs.Stops.{AreRead, HasEdge}
use Rattle.copy_reader.proofs.edge.audit_levels.Given as goal

abbrev pub invariant-loop-done : goal.invariant-loop-done
invariant-loop-done g l = record {
  counted : g.S.Source.failed l.source ≡ g.S.Source.failed l.fn.source;
  covers : CoversLevels g.H.TreeHash.digest l.edge (8 - l.done) (g.S.Source.may_answer l.fn.source)
      (g.S.Source.may_answer l.source) (g.S.Source.asked l.fn.source) (g.S.Source.asked l.source);
  read : AreRead g.H.TreeHash.digest (HasEdge g.H.TreeHash.digest l.edge) (levels_order l.edge.size l.done) (g.S.Source.may_answer l.fn.source)
      (g.S.Source.may_answer l.source) (g.S.Source.asked l.fn.source) (g.S.Source.asked l.source);
}
