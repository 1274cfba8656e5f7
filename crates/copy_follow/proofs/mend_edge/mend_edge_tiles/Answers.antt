use Rattle.std.proofs.Common.{◌≡◌, ◌≤◌, ◌∙◌, refl, subst, arith}
use Rattle.copy_follow.specs.Repaired.{AreEdgeTilesHad}
use Rattle.copy_follow.proofs.Growth.{gathers_then, kept_same}
use Rattle.copy_follow.proofs.MendedFiles.{tiles_first, tiles_then}
use Rattle.copy_follow.proofs.Mending.{counts_none, counts_then}
use Rattle.copy_follow.proofs.Naming.{names_none, names_then}
use Rattle.copy_follow.proofs.mend_edge.mend_edge_tiles.Goals as goal

pub loop-level-init : goal.loop-level-init
loop-level-init g c =
    let x = g.D.Shelf.puts c.args.shelf.now in
    let n = c.args.repaired.now.put in
    record {
      counted = refl;
      counts = counts_none n n x x refl (kept_same x);
      puts = λ entries long rows. tiles_first g.H.TreeHash.digest c.args.edge.now entries x;
      names = λ log long rows. names_none g.H.TreeHash.digest log x c.args.repaired.now.damaged.items c.args.repaired.now.damaged.items refl;
    }

pub loop-level-preserved : goal.loop-level-preserved
loop-level-preserved g c =
    let x = g.D.Shelf.puts c.args.shelf.now in
    let y = g.D.Shelf.puts c.loop-level.shelf in
    let z = g.D.Shelf.puts c.mend_edge_tile.new.shelf in
    record {
      counted = c.in-Ok.ensures.counted ∙ c.loop-level.invariant.counted;
      counts = counts_then c.args.repaired.now.put c.loop-level.repaired.put c.mend_edge_tile.new.repaired.put x y z
          c.loop-level.invariant.counts c.mend_edge_tile.ensures.counts;
      puts = λ entries long rows.
          let upto : c.loop-level.level ≤ 7 = omega arith in
          tiles_then g.H.TreeHash.digest c.args.edge.now entries long x y z c.loop-level.level upto
          (c.loop-level.invariant.puts entries long rows)
          (c.in-Ok.ensures.puts entries long (rows c.loop-level.level upto));
      names = λ log long rows.
          let upto : c.loop-level.level ≤ 7 = omega arith in
          let so_far = c.loop-level.invariant.puts log long rows in
          names_then g.H.TreeHash.digest log x y c.args.repaired.now.damaged.items c.loop-level.repaired.damaged.items
          c.mend_edge_tile.new.repaired.damaged.items so_far.gathers (c.loop-level.invariant.names log long rows)
          (c.in-Ok.ensures.names log long (rows c.loop-level.level upto));
    }

pub returns-in-Err-clause-puts : goal.returns-in-Err-clause-puts
returns-in-Err-clause-puts g c = λ entries long rows.
    let upto : c.loop-level.level ≤ 7 = omega arith in
    gathers_then g.H.TreeHash.digest 0 entries entries entries (g.D.Shelf.puts c.args.shelf.now)
    (g.D.Shelf.puts c.loop-level.shelf) (g.D.Shelf.puts c.mend_edge_tile.new.shelf)
    (c.loop-level.invariant.puts entries long rows).gathers (c.in-Err.ensures.puts entries long (rows c.loop-level.level upto))

pub returns-in-Err-clause-counts : goal.returns-in-Err-clause-counts
returns-in-Err-clause-counts g c =
    counts_then c.args.repaired.now.put c.loop-level.repaired.put c.mend_edge_tile.new.repaired.put
    (g.D.Shelf.puts c.args.shelf.now) (g.D.Shelf.puts c.loop-level.shelf) (g.D.Shelf.puts c.mend_edge_tile.new.shelf)
    c.loop-level.invariant.counts c.mend_edge_tile.ensures.counts

pub returns-clause-puts : goal.returns-clause-puts
returns-clause-puts g c = λ entries long rows.
    let end : c.loop-level.level ≡ 8 = omega arith in
    subst (λ n. AreEdgeTilesHad g.H.TreeHash.digest c.args.edge.now entries (g.D.Shelf.puts c.args.shelf.now)
    (g.D.Shelf.puts c.loop-level.shelf) n) end (c.loop-level.invariant.puts entries long rows)
