use Rattle.std.proofs.Common.{◌≡◌, ◌+◌, ◌-◌, ◌*◌, ◌^◌, ◌<◌, ◌≤◌, ℕ, List, length, refl, subst, sym, ap, ◌∙◌, arith}
use Rattle.tlog_shape.specs.Edge.{edge_index_of, width_of}
use Rattle.copy_places.proofs.Asking.{asks_same}
use Rattle.copy_follow.specs.Edges.{IsEdgeBrought}
use Rattle.copy_follow.specs.Growing.{IsKnown, IsRowBrought, empty_tip}
use Rattle.copy_follow.specs.Lacked.{GoesAlong, GoesDown}
use Rattle.copy_follow.specs.Repaired.{IsFullFile}
use Rattle.copy_follow.specs.Suffices.{IsTileRow}
use Rattle.copy_follow.proofs.EdgeRows.{edge_first, edge_known, edge_step, row_fits}
use Rattle.copy_follow.proofs.Growth.{gathers_none, gathers_then, kept_same}
use Rattle.copy_follow.proofs.Lacking.{down_more}
use Rattle.copy_follow.proofs.Mending.{fulls_later, mends_none, mends_then}
use Rattle.copy_follow.proofs.Naming.{names_none, names_then}
use Rattle.copy_follow.proofs.Spared.{edge_row_true}
use Rattle.copy_follow.proofs.mend_edge.mend_levels.Goals as goal

pub loop-done-init : goal.loop-done-init
loop-done-init g c =
    let x = g.D.Shelf.puts c.args.shelf.now in
    let p = c.args.places.now in
    let n = c.args.repaired.now.put in
    record {
      counted = refl;
      mends = mends_none g.S.Source.may_answer g.S.Source.failed g.S.Source.asked IsFullFile p p x x n n
          (asks_same g.S.Source.may_answer g.S.Source.failed g.S.Source.asked IsFullFile p) (kept_same x) refl;
      keeps = λ log clear is. gathers_none g.H.TreeHash.digest 0 log x x (kept_same x);
      whole = λ yes known is. edge_first g.H.TreeHash.digest empty_tip c.args.edge.now known c.requires.widths x c.requires.size is;
      goes_on = λ log short clear is level from upto. absurd (omega (arith, from, upto));
      names = λ log short clear is. names_none g.H.TreeHash.digest log x c.args.repaired.now.damaged.items c.args.repaired.now.damaged.items refl;
    }

pub mend_row-requires-clause-fits : goal.mend_row-requires-clause-fits
mend_row-requires-clause-fits g c =
    let level = 7 - c.loop-done.done in
    let at : c.edge_index-index.result ≡ edge_index_of c.args.edge.now.size level =
    c.edge_index-index.ensures ∙ ap (λ n. edge_index_of n level) c.size.ensures in
    subst (λ k. (256 * k + length c.row.result.now) * 256 ^ level ≤ 9223372036854775808) (sym at)
    (subst (λ (r : List (List ℕ)). (256 * edge_index_of c.args.edge.now.size level + length r) * 256 ^ level ≤ 9223372036854775808)
    (sym c.row.ensures) (row_fits c.args.edge.now c.requires.widths level (omega arith) c.requires.size))

pub returns-in-Err-clause-mends : goal.returns-in-Err-clause-mends
returns-in-Err-clause-mends g c =
    mends_then g.S.Source.may_answer g.S.Source.failed g.S.Source.asked IsFullFile c.args.places.now c.loop-done.places
    c.mend_row.new.places (g.D.Shelf.puts c.args.shelf.now) (g.D.Shelf.puts c.loop-done.shelf) (g.D.Shelf.puts c.mend_row.new.shelf)
    c.args.repaired.now.put c.loop-done.repaired.put c.mend_row.new.repaired.put c.loop-done.invariant.mends c.mend_row.ensures.mends

pub returns-in-Err-clause-keeps : goal.returns-in-Err-clause-keeps
returns-in-Err-clause-keeps g c = λ log clear is.
    let digest = g.H.TreeHash.digest in
    let x = g.D.Shelf.puts c.args.shelf.now in
    let y = g.D.Shelf.puts c.loop-done.shelf in
    let z = g.D.Shelf.puts c.mend_row.new.shelf in
    let edge = c.args.edge.now in
    let level = 7 - c.loop-done.done in
    let at : c.edge_index-index.result ≡ edge_index_of edge.size level =
    c.edge_index-index.ensures ∙ ap (λ n. edge_index_of n level) c.size.ensures in
    let there = edge_row_true digest g.met.H.TreeHash.digest_length log edge c.requires.widths is level (omega arith) in
    gathers_then digest 0 log log log x y z (c.loop-done.invariant.keeps log clear is)
    (c.mend_row.ensures.keeps log
    (fulls_later g.S.Source.may_answer g.S.Source.failed g.S.Source.asked IsFullFile c.args.places.now c.loop-done.places
    c.loop-done.invariant.mends.asks digest g.met.H.TreeHash.digest_length log x y c.loop-done.invariant.mends.taken (c.loop-done.invariant.keeps log clear is) clear)
    (subst (λ i. IsTileRow digest log level i c.row.result.now) (sym at)
    (subst (λ (r : List (List ℕ)). IsTileRow digest log level (edge_index_of edge.size level) r) (sym c.row.ensures) there)))

pub loop-done-preserved : goal.loop-done-preserved
loop-done-preserved g c =
    let digest = g.H.TreeHash.digest in
    let x = g.D.Shelf.puts c.args.shelf.now in
    let y = g.D.Shelf.puts c.loop-done.shelf in
    let z = g.D.Shelf.puts c.mend_row.new.shelf in
    let edge = c.args.edge.now in
    let level = 7 - c.loop-done.done in
    let at : c.edge_index-index.result ≡ edge_index_of edge.size level =
    c.edge_index-index.ensures ∙ ap (λ n. edge_index_of n level) c.size.ensures in
    record {
      counted = c.in-Ok.ensures.counted ∙ c.loop-done.invariant.counted;
      mends = mends_then g.S.Source.may_answer g.S.Source.failed g.S.Source.asked IsFullFile c.args.places.now c.loop-done.places
          c.mend_row.new.places x y z c.args.repaired.now.put c.loop-done.repaired.put c.mend_row.new.repaired.put
          c.loop-done.invariant.mends c.mend_row.ensures.mends;
      keeps = λ log clear is.
          let there = edge_row_true digest g.met.H.TreeHash.digest_length log edge c.requires.widths is level (omega arith) in
          gathers_then digest 0 log log log x y z (c.loop-done.invariant.keeps log clear is)
          (c.mend_row.ensures.keeps log
          (fulls_later g.S.Source.may_answer g.S.Source.failed g.S.Source.asked IsFullFile c.args.places.now c.loop-done.places
          c.loop-done.invariant.mends.asks digest g.met.H.TreeHash.digest_length log x y c.loop-done.invariant.mends.taken (c.loop-done.invariant.keeps log clear is) clear)
          (subst (λ i. IsTileRow digest log level i c.row.result.now) (sym at)
          (subst (λ (r : List (List ℕ)). IsTileRow digest log level (edge_index_of edge.size level) r) (sym c.row.ensures) there)));
      whole = λ yes known is.
          let both = c.both-all.ensures yes in
          let low = 8 - c.loop-done.done in
          let below : level ≡ low - 1 = omega arith in
          let s = c.loop-done.invariant.whole both.0 known is in
          let b = c.in-Ok.ensures.whole both.1 s.next
          (subst (λ k. IsKnown digest empty_tip (k * 256 ^ (level + 1)) s.next) (sym at)
          (edge_known digest empty_tip edge known c.requires.widths x y low level 0 below is s)) in
          let placed = subst (λ k. IsRowBrought digest empty_tip level k c.row.result.now s.next y z (length c.row.result.now)) at b in
          let rowed = subst (λ r. IsRowBrought digest empty_tip level (edge_index_of edge.size level) r s.next y z (length r))
          c.row.ensures placed in
          let next : level ≡ 8 - (c.loop-done.done + 1) = omega arith in
          subst (λ k. IsEdgeBrought digest empty_tip edge known k x z) next
          (edge_step digest empty_tip edge known c.requires.widths x y z low level below (omega arith) (omega arith) s rowed);
      goes_on = λ log short clear is.
          let may = g.S.Source.may_answer in
          let failed = g.S.Source.failed in
          let asked = g.S.Source.asked in
          let so = IsFullFile in
          let p = c.args.places.now in
          let q = c.loop-done.places in
          let r = c.mend_row.new.places in
          let m = c.loop-done.invariant.mends in
          let still = fulls_later may failed asked so p q m.asks digest g.met.H.TreeHash.digest_length log x y m.taken (c.loop-done.invariant.keeps log clear is) clear in
          let there = edge_row_true digest g.met.H.TreeHash.digest_length log edge c.requires.widths is level (omega arith) in
          let placed = subst (λ i. IsTileRow digest log level i c.row.result.now) (sym at)
          (subst (λ (r : List (List ℕ)). IsTileRow digest log level (edge_index_of edge.size level) r) (sym c.row.ensures) there) in
          let place : c.edge_index-index.result ≡ edge_index_of (length log) level =
          at ∙ ap (λ n. edge_index_of n level) is.size_is in
          let count : length c.row.result.now ≡ width_of (length log) level =
          ap length c.row.ensures ∙ (c.requires.widths level (omega arith) ∙ ap (λ n. width_of n level) is.size_is) in
          let along = subst (λ n. GoesAlong digest log may q r y z level (edge_index_of (length log) level) n) count
          (subst (λ i. GoesAlong digest log may q r y z level i (length c.row.result.now)) place
          (c.in-Ok.ensures.goes_on log short still placed)) in
          let next : level ≡ 8 - (c.loop-done.done + 1) = omega arith in
          subst (λ k. GoesDown digest log may p r x z k) next
          (down_more may failed asked digest log so so p q r m.asks c.mend_row.ensures.mends.asks x y z
          (c.loop-done.invariant.keeps log clear is) (c.mend_row.ensures.keeps log still placed)
          (gathers_none digest 0 log x x (kept_same x)) (8 - c.loop-done.done) level (omega arith)
          (c.loop-done.invariant.goes_on log short clear is) along);
      names = λ log short clear is.
          let m = c.loop-done.invariant.mends in
          let still = fulls_later g.S.Source.may_answer g.S.Source.failed g.S.Source.asked IsFullFile c.args.places.now
          c.loop-done.places m.asks digest g.met.H.TreeHash.digest_length log x y m.taken (c.loop-done.invariant.keeps log clear is) clear in
          let there = edge_row_true digest g.met.H.TreeHash.digest_length log edge c.requires.widths is level (omega arith) in
          let placed = subst (λ i. IsTileRow digest log level i c.row.result.now) (sym at)
          (subst (λ (r : List (List ℕ)). IsTileRow digest log level (edge_index_of edge.size level) r) (sym c.row.ensures) there) in
          names_then digest log x y c.args.repaired.now.damaged.items c.loop-done.repaired.damaged.items
          c.mend_row.new.repaired.damaged.items (c.loop-done.invariant.keeps log clear is)
          (c.loop-done.invariant.names log short clear is) (c.in-Ok.ensures.names log short still placed);
    }

pub returns-clause-goes_on : goal.returns-clause-goes_on
returns-clause-goes_on g c = λ log short clear is.
    let end : 8 - c.loop-done.done ≡ 1 = omega arith in
    subst (λ k. GoesDown g.H.TreeHash.digest log g.S.Source.may_answer c.args.places.now c.loop-done.places
    (g.D.Shelf.puts c.args.shelf.now) (g.D.Shelf.puts c.loop-done.shelf) k) end (c.loop-done.invariant.goes_on log short clear is)
