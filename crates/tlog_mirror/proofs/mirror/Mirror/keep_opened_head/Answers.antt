use Rattle.tlog_mirror.proofs.OpenHeads.{edge_is_lacking}
use Rattle.std.proofs.Common.{refl}
use Rattle.tlog_mirror.proofs.mirror.Mirror.keep_opened_head.Goals as goal

pub returns-then-not-has_edge-clause-keeps : goal.returns-then-not-has_edge-clause-keeps
returns-then-not-has_edge-clause-keeps g c = (
  edge_is_lacking g.H.TreeHash.digest c.args.self.now.view c.args.head.now c.requires c.has_edge.result
      c.has_edge.ensures c.if-not-has_edge.true,
  refl,
)
