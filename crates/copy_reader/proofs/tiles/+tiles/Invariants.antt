use Rattle.std.proofs.Common.{◌≡◌, ◌+◌, ◌*◌}
use Rattle.copy_reader.specs.Covering.{CoversRow}
use Rattle.copy_reader.specs.Order.{row_order}
use Rattle.copy_reader.specs.Stops.{AreRead, HasRow}
use Rattle.copy_reader.proofs.tiles.+tiles.Given as goal

abbrev pub decreases-audit_tile : goal.decreases-audit_tile
decreases-audit_tile g l = 2 * l.level + 1

abbrev pub decreases-audit_row : goal.decreases-audit_row
decreases-audit_row g l = 2 * l.level

abbrev pub invariant-audit_row-loop-i : goal.invariant-audit_row-loop-i
invariant-audit_row-loop-i g l = record {
  counted : g.S.Source.failed l.source ≡ g.S.Source.failed l.fn.source;
  covers : CoversRow g.H.TreeHash.digest l.level l.index l.row l.i (g.S.Source.may_answer l.fn.source)
      (g.S.Source.may_answer l.source) (g.S.Source.asked l.fn.source) (g.S.Source.asked l.source);
  read : AreRead g.H.TreeHash.digest (HasRow g.H.TreeHash.digest l.level l.index l.row) (row_order l.level l.index l.i) (g.S.Source.may_answer l.fn.source)
      (g.S.Source.may_answer l.source) (g.S.Source.asked l.fn.source) (g.S.Source.asked l.source);
}
