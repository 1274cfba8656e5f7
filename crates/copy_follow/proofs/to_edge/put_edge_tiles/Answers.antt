use Rattle.std.proofs.Common.{◌≡◌, ◌≤◌, ◌∙◌, refl, subst, arith}
use Rattle.std.proofs.lemmas.Result.{err_from_is_err_and}
use Rattle.copy_follow.specs.Edges.{AreEdgeTilesPut}
use Rattle.copy_follow.proofs.Growth.{gathers_then}
use Rattle.copy_follow.proofs.Finishing.{edge_put_first, edge_put_then}
use Rattle.copy_follow.proofs.Exits.{counted_exit, err_exit}
use Rattle.mirror_folders.specs.Flushes.{Secures}
use Rattle.copy_follow.specs.Secured.{IsNewLastBelow}
use Rattle.copy_follow.proofs.Secured.{tiles_first, tiles_more}
use Rattle.copy_follow.proofs.to_edge.put_edge_tiles.Goals as goal

pub loop-level-init : goal.loop-level-init
loop-level-init g c = record {
  counted = refl;
  secured = tiles_first c.args.tip.now.size c.args.edge.now.size (g.D.Shelf.flushes c.args.shelf.now);
  puts = λ entries long rows.
      edge_put_first g.H.TreeHash.digest c.args.tip.now.size c.args.edge.now entries long (g.D.Shelf.puts c.args.shelf.now);
}

pub loop-level-preserved : goal.loop-level-preserved
loop-level-preserved g c = record {
  counted = c.in_ok-put_edge_tile.ensures.counted ∙ c.loop-level.invariant.counted;
  secured = tiles_more c.args.tip.now.size c.args.edge.now.size c.loop-level.level (g.D.Shelf.flushes c.args.shelf.now)
      (g.D.Shelf.flushes c.loop-level.shelf) (g.D.Shelf.flushes c.put_edge_tile.new.shelf) c.loop-level.invariant.secured
      c.in_ok-put_edge_tile.ensures.secured;
  puts = λ entries long rows.
      let upto : c.loop-level.level ≤ 7 = omega arith in
      edge_put_then g.H.TreeHash.digest c.args.tip.now.size c.args.edge.now entries long (g.D.Shelf.puts c.args.shelf.now)
      (g.D.Shelf.puts c.loop-level.shelf) (g.D.Shelf.puts c.put_edge_tile.new.shelf) c.loop-level.level upto
      (c.loop-level.invariant.puts entries long rows)
      (c.in_ok-put_edge_tile.ensures.puts entries long (rows c.loop-level.level upto));
}

pub returns-in_err-put_edge_tile-clause-puts : goal.returns-in_err-put_edge_tile-clause-puts
returns-in_err-put_edge_tile-clause-puts g c = λ entries long rows.
    let p = err_from_is_err_and c.from_residual.result c.from_residual.ensures.1 in
    let upto : c.loop-level.level ≤ 7 = omega arith in
    rw p.1 (gathers_then g.H.TreeHash.digest c.args.tip.now.size entries entries entries (g.D.Shelf.puts c.args.shelf.now)
    (g.D.Shelf.puts c.loop-level.shelf) (g.D.Shelf.puts c.put_edge_tile.new.shelf)
    (c.loop-level.invariant.puts entries long rows).gathers (c.in_err-put_edge_tile.ensures.puts entries long (rows c.loop-level.level upto)))

pub returns-clause-puts : goal.returns-clause-puts
returns-clause-puts g c = λ entries long rows.
    let end : c.loop-level.level ≡ 8 = omega arith in
    subst (λ n. AreEdgeTilesPut g.H.TreeHash.digest c.args.tip.now.size c.args.edge.now entries (g.D.Shelf.puts c.args.shelf.now)
    (g.D.Shelf.puts c.loop-level.shelf) n) end (c.loop-level.invariant.puts entries long rows)

pub returns-in_err-put_edge_tile-clause-fault : goal.returns-in_err-put_edge_tile-clause-fault
returns-in_err-put_edge_tile-clause-fault g c =
    err_exit _ c.from_residual.result c.in_err-put_edge_tile.field-0.0 c.from_residual.ensures c.in_err-put_edge_tile.ensures.fault

pub returns-in_err-put_edge_tile-clause-counted : goal.returns-in_err-put_edge_tile-clause-counted
returns-in_err-put_edge_tile-clause-counted g c =
    counted_exit c.from_residual.result c.in_err-put_edge_tile.field-0.0 c.from_residual.ensures (g.D.Shelf.failed c.args.shelf.now)
    (g.D.Shelf.failed c.loop-level.shelf) (g.D.Shelf.failed c.put_edge_tile.new.shelf) c.loop-level.invariant.counted c.in_err-put_edge_tile.ensures.counted

pub returns-in_err-put_edge_tile-clause-places : goal.returns-in_err-put_edge_tile-clause-places
returns-in_err-put_edge_tile-clause-places g c =
    err_exit _ c.from_residual.result c.in_err-put_edge_tile.field-0.0 c.from_residual.ensures c.in_err-put_edge_tile.ensures.places

pub returns-clause-secured : goal.returns-clause-secured
returns-clause-secured g c =
    let end : c.loop-level.level ≡ 8 = omega arith in
    subst (λ n. Secures (IsNewLastBelow c.args.tip.now.size c.args.edge.now.size n) (g.D.Shelf.flushes c.args.shelf.now)
    (g.D.Shelf.flushes c.loop-level.shelf)) end c.loop-level.invariant.secured
