use Rattle.std.proofs.Common.{◌≡◌, ap, ◌∙◌, arith}
use Rattle.std.proofs.lemmas.Result.{IfOk-from_err}
use Rattle.tlog_tiles.specs.Edge.{edge_below, edge_of}
use Rattle.tlog_tiles.proofs.edge.edge_paths.Goals as goal

pub returns : goal.returns
unfolding edge_of
returns c = let all : c.loop-level.level ≡ 8 = omega arith in c.loop-level.invariant ∙ ap (edge_below c.args.size) all

pub returns-in_err-push : goal.returns-in_err-push
returns-in_err-push c = IfOk-from_err c.from_residual.result _ c.from_residual.ensures.0
