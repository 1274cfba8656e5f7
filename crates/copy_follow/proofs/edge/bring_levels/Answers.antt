use Rattle.std.proofs.Common.{◌≡◌, ◌+◌, ◌-◌, ◌*◌, ◌/◌, ◌^◌, ◌<◌, ◌≤◌, ℕ, List, length, take, refl, subst, sym, ap, ◌∙◌, arith}
use Rattle.std.proofs.lemmas.Result.{err_from_is_err_and}
use Rattle.tlog_shape.specs.Edge.{edge_index_of}
use Rattle.copy_follow.proofs.Growth.{kept_same}
use Rattle.copy_places.proofs.Asking.{asks_same, asks_then}
use Rattle.copy_follow.specs.Asked.{IsNewFull}
use Rattle.copy_follow.specs.Suffices.{IsTileRow}
use Rattle.copy_follow.proofs.OnePlace.{honest_between, puts_none, puts_then}
use Rattle.copy_follow.proofs.Spared.{edge_row_true}
use Rattle.copy_follow.specs.Growing.{IsKnown, IsRowBrought}
use Rattle.log_reader.specs.EdgeRows.{row_at}
use Rattle.copy_follow.specs.Edges.{IsEdgeBrought}
use Rattle.copy_follow.proofs.EdgeRows.{edge_first, edge_known, edge_left, edge_step, floor_mono, row_beyond, row_end, row_fits}
use Rattle.copy_follow.proofs.Earlier.{kept_then}
use Rattle.copy_places.proofs.AskingOnce.{once_same}
use Rattle.copy_follow.proofs.Between.{once_longer, once_row}
use Rattle.copy_places.specs.AskedOnce.{AsksOnce}
use Rattle.copy_follow.specs.Asked.{IsFullBetween}
use Rattle.std.proofs.Math.Nat.{div-mul-le_self}
use Rattle.copy_follow.proofs.Exits.{counted_exit, err_exit}
use Rattle.tlog_shape.specs.Edge.{width_of}
use Rattle.mirror_folders.specs.Flushes.{Secures}
use Rattle.copy_follow.specs.Secured.{IsNewInEdge, IsNewInRow}
use Rattle.copy_follow.proofs.Secured as secured
use Rattle.log_reader.specs.Ways.{IsShownRow}
use Rattle.copy_follow.proofs.Differing.{edge_shown}
use Rattle.copy_follow.proofs.edge.bring_levels.Goals as goal

pub loop-done-init : goal.loop-done-init
loop-done-init g c = record {
  counted = refl;
  asks = asks_same g.S.Source.may_answer g.S.Source.failed g.S.Source.asked (IsNewFull c.args.tip.now.size) c.args.places.now;
  once = once_same g.S.Source.asked (λ k. IsFullBetween 7 0 (edge_index_of c.args.edge.now.size 7 * 256 ^ (7 + 1))) c.args.places.now;
  taken = puts_none g.S.Source.may_answer g.S.Source.failed g.S.Source.asked c.args.places.now (g.D.Shelf.puts c.args.shelf.now)
      (g.D.Shelf.puts c.args.shelf.now) (kept_same (g.D.Shelf.puts c.args.shelf.now));
  early = λ within. kept_same (g.D.Shelf.puts c.args.shelf.now);
  secured = secured.edge_first c.args.tip.now.size c.args.edge.now.size (g.D.Shelf.flushes c.args.shelf.now);
  brought = λ known is.
      edge_first g.H.TreeHash.digest c.args.tip.now c.args.edge.now known c.requires.widths (g.D.Shelf.puts c.args.shelf.now)
      c.requires.size is;
}

pub bring_row-requires-clause-fits : goal.bring_row-requires-clause-fits
bring_row-requires-clause-fits g c =
    let level = 7 - c.loop-done.done in
    let at : c.edge_index-index.result ≡ edge_index_of c.args.edge.now.size level =
    c.edge_index-index.ensures ∙ ap (λ n. edge_index_of n level) c.size.ensures in
    subst (λ k. (256 * k + length c.row.result.now) * 256 ^ level ≤ 9223372036854775808) (sym at)
    (subst (λ (r : List (List ℕ)). (256 * edge_index_of c.args.edge.now.size level + length r) * 256 ^ level ≤ 9223372036854775808)
    (sym c.row.ensures) (row_fits c.args.edge.now c.requires.widths level (omega arith) c.requires.size))

pub bring_row-requires-clause-beyond : goal.bring_row-requires-clause-beyond
bring_row-requires-clause-beyond g c =
    let level = 7 - c.loop-done.done in
    let at : c.edge_index-index.result ≡ edge_index_of c.args.edge.now.size level =
    c.edge_index-index.ensures ∙ ap (λ n. edge_index_of n level) c.size.ensures in
    subst (λ k. c.args.tip.now.size < (k + 1) * 256 ^ (level + 1)) (sym at)
    (row_beyond c.args.edge.now c.requires.widths level (omega arith) c.args.tip.now.size c.requires.larger)

pub returns-in_err-bring_row-clause-brings : goal.returns-in_err-bring_row-clause-brings
returns-in_err-bring_row-clause-brings g c = λ known is.
    let p = err_from_is_err_and c.from_residual.result c.from_residual.ensures.1 in
    let digest = g.H.TreeHash.digest in
    let tip = c.args.tip.now in
    let edge = c.args.edge.now in
    let x = g.D.Shelf.puts c.args.shelf.now in
    let y = g.D.Shelf.puts c.loop-done.shelf in
    let z = g.D.Shelf.puts c.bring_row.new.shelf in
    let level = 7 - c.loop-done.done in
    let low = 8 - c.loop-done.done in
    let below : level ≡ low - 1 = omega arith in
    let at : c.edge_index-index.result ≡ edge_index_of edge.size level =
    c.edge_index-index.ensures ∙ ap (λ n. edge_index_of n level) c.size.ensures in
    let s = c.loop-done.invariant.brought known is in
    rw p.1 (edge_left digest tip edge known c.requires.widths x y z low s
    (c.in_err-bring_row.ensures.brings s.next
    (subst (λ k. IsKnown digest tip (k * 256 ^ (level + 1)) s.next) (sym at)
    (edge_known digest tip edge known c.requires.widths x y low level 0 below is s))))

pub loop-done-preserved : goal.loop-done-preserved
loop-done-preserved g c = record {
  counted = c.in_ok-bring_row.ensures.counted ∙ c.loop-done.invariant.counted;
  asks = asks_then g.S.Source.may_answer g.S.Source.failed g.S.Source.asked (IsNewFull c.args.tip.now.size) c.args.places.now c.loop-done.places
      c.bring_row.new.places c.loop-done.invariant.asks c.bring_row.ensures.asks;
  once =
      let next : 7 - c.loop-done.done ≡ 7 - (c.loop-done.done + 1) + 1 = omega arith in
      subst (λ l. AsksOnce g.S.Source.asked (λ k. IsFullBetween 7 0 (c.args.edge.now.size / 256 ^ l * 256 ^ l)) c.args.places.now
      c.bring_row.new.places) next
      (let level = 7 - c.loop-done.done in
      let edge = c.args.edge.now in
      let n = edge.size in
      let at : c.edge_index-index.result ≡ edge_index_of n level =
      c.edge_index-index.ensures ∙ ap (λ k. edge_index_of k level) c.size.ensures in
      let end = ap (λ k. (256 * k + length c.row.result.now) * 256 ^ level) at
      ∙ (ap (λ (r : List (List ℕ)). (256 * edge_index_of n level + length r) * 256 ^ level) c.row.ensures
      ∙ row_end edge c.requires.widths level (omega arith)) in
      let row = subst (λ t. AsksOnce g.S.Source.asked (λ k. IsFullBetween level (n / 256 ^ (level + 1) * 256 ^ (level + 1)) t)
      c.loop-done.places c.bring_row.new.places) end
      (subst (λ i. AsksOnce g.S.Source.asked (λ k. IsFullBetween level (i * 256 ^ (level + 1))
      ((256 * c.edge_index-index.result + length c.row.result.now) * 256 ^ level)) c.loop-done.places c.bring_row.new.places) at
      c.bring_row.ensures.once) in
      once_row g.S.Source.asked n level (omega arith) c.args.places.now c.loop-done.places c.bring_row.new.places c.loop-done.invariant.once row);
  taken = puts_then g.S.Source.may_answer g.S.Source.failed g.S.Source.asked (IsNewFull c.args.tip.now.size) c.args.places.now
      c.loop-done.places c.loop-done.invariant.asks (g.D.Shelf.puts c.args.shelf.now) (g.D.Shelf.puts c.loop-done.shelf)
      (g.D.Shelf.puts c.bring_row.new.shelf) c.loop-done.invariant.taken c.bring_row.ensures.taken;
  secured =
      let level = 7 - c.loop-done.done in
      let low = 8 - c.loop-done.done in
      let n = c.args.edge.now.size in
      let m = c.args.tip.now.size in
      let x = g.D.Shelf.flushes c.args.shelf.now in
      let y = g.D.Shelf.flushes c.loop-done.shelf in
      let z = g.D.Shelf.flushes c.bring_row.new.shelf in
      let above : low ≡ level + 1 = omega arith in
      let next : level ≡ 8 - (c.loop-done.done + 1) = omega arith in
      let at : c.edge_index-index.result ≡ edge_index_of n level =
      c.edge_index-index.ensures ∙ ap (λ k. edge_index_of k level) c.size.ensures in
      let wide : length c.row.result.now ≡ width_of n level =
      ap length c.row.ensures ∙ c.requires.widths level (omega arith) in
      let row = subst (λ k. Secures (IsNewInRow m level k (width_of n level)) y z) at
      (subst (λ k. Secures (IsNewInRow m level c.edge_index-index.result k) y z) wide c.in_ok-bring_row.ensures.secured) in
      subst (λ k. Secures (IsNewInEdge m n k) x z) next
      (secured.edge_more m n low level above x y z c.loop-done.invariant.secured row);
  early = λ within.
      let level = 7 - c.loop-done.done in
      let edge = c.args.edge.now in
      let n = edge.size in
      let m = c.args.tip.now.size in
      let x = g.D.Shelf.puts c.args.shelf.now in
      let y = g.D.Shelf.puts c.loop-done.shelf in
      let z = g.D.Shelf.puts c.bring_row.new.shelf in
      let next : 8 - (c.loop-done.done + 1) - 1 + 1 ≡ level = omega arith in
      let this : level + 1 ≡ 8 - c.loop-done.done - 1 + 1 = omega arith in
      let at : c.edge_index-index.result ≡ edge_index_of n level =
      c.edge_index-index.ensures ∙ ap (λ k. edge_index_of k level) c.size.ensures in
      let low : n / 256 ^ level * 256 ^ level ≤ m = subst (λ l. n / 256 ^ l * 256 ^ l ≤ m) next within in
      let high : n / 256 ^ (level + 1) * 256 ^ (level + 1) ≤ m =
      omega (arith, low, floor_mono n level (level + 1) (omega arith)) in
      let all : (256 * edge_index_of n level + length (row_at edge level)) * 256 ^ level ≤ m =
      omega (arith, low, row_end edge c.requires.widths level (omega arith)) in
      let passed : (256 * c.edge_index-index.result + length c.row.result.now) * 256 ^ level ≤ m =
      subst (λ k. (256 * k + length c.row.result.now) * 256 ^ level ≤ m) (sym at)
      (subst (λ (r : List (List ℕ)). (256 * edge_index_of n level + length r) * 256 ^ level ≤ m) (sym c.row.ensures) all) in
      kept_then x y z (c.loop-done.invariant.early (subst (λ l. n / 256 ^ l * 256 ^ l ≤ m) this high))
      (c.in_ok-bring_row.ensures.none passed);
  brought = λ known is.
      let digest = g.H.TreeHash.digest in
      let tip = c.args.tip.now in
      let edge = c.args.edge.now in
      let x = g.D.Shelf.puts c.args.shelf.now in
      let y = g.D.Shelf.puts c.loop-done.shelf in
      let z = g.D.Shelf.puts c.bring_row.new.shelf in
      let level = 7 - c.loop-done.done in
      let low = 8 - c.loop-done.done in
      let below : level ≡ low - 1 = omega arith in
      let at : c.edge_index-index.result ≡ edge_index_of edge.size level =
      c.edge_index-index.ensures ∙ ap (λ n. edge_index_of n level) c.size.ensures in
      let s = c.loop-done.invariant.brought known is in
      let b = c.in_ok-bring_row.ensures.brings s.next
      (subst (λ k. IsKnown digest tip (k * 256 ^ (level + 1)) s.next) (sym at)
      (edge_known digest tip edge known c.requires.widths x y low level 0 below is s)) in
      let placed = subst (λ k. IsRowBrought digest tip level k c.row.result.now s.next y z (length c.row.result.now)) at b in
      let rowed = subst (λ r. IsRowBrought digest tip level (edge_index_of edge.size level) r s.next y z (length r))
      c.row.ensures placed in
      let next : level ≡ 8 - (c.loop-done.done + 1) = omega arith in
      subst (λ k. IsEdgeBrought digest tip edge known k x z) next
      (edge_step digest tip edge known c.requires.widths x y z low level below (omega arith) (omega arith) s rowed);
}

pub returns-in_err-bring_row-clause-asks : goal.returns-in_err-bring_row-clause-asks
returns-in_err-bring_row-clause-asks g c =
    asks_then g.S.Source.may_answer g.S.Source.failed g.S.Source.asked (IsNewFull c.args.tip.now.size) c.args.places.now
    c.loop-done.places c.bring_row.new.places c.loop-done.invariant.asks c.bring_row.ensures.asks

pub returns-clause-asks : goal.returns-clause-asks
returns-clause-asks g c = c.loop-done.invariant.asks

pub returns-in_err-bring_row-clause-taken : goal.returns-in_err-bring_row-clause-taken
returns-in_err-bring_row-clause-taken g c =
    puts_then g.S.Source.may_answer g.S.Source.failed g.S.Source.asked (IsNewFull c.args.tip.now.size) c.args.places.now
    c.loop-done.places c.loop-done.invariant.asks (g.D.Shelf.puts c.args.shelf.now) (g.D.Shelf.puts c.loop-done.shelf)
    (g.D.Shelf.puts c.bring_row.new.shelf) c.loop-done.invariant.taken c.bring_row.ensures.taken

pub returns-clause-taken : goal.returns-clause-taken
returns-clause-taken g c = c.loop-done.invariant.taken

pub returns-in_err-bring_row-clause-honest : goal.returns-in_err-bring_row-clause-honest
returns-in_err-bring_row-clause-honest g c =
    let p = err_from_is_err_and c.from_residual.result c.from_residual.ensures.1 in
    let digest = g.H.TreeHash.digest in
    let may = g.S.Source.may_answer in
    let failed = g.S.Source.failed in
    let asked = g.S.Source.asked in
    let edge = c.args.edge.now in
    let level = 7 - c.loop-done.done in
    let so = IsNewFull c.args.tip.now.size in
    let z = c.bring_row.new.places in
    let at : c.edge_index-index.result ≡ edge_index_of edge.size level =
    c.edge_index-index.ensures ∙ ap (λ n. edge_index_of n level) c.size.ensures in
    rw (p.1, p.2) (λ entries size h tip is.
    let log = take size entries in
    let there = edge_row_true digest g.met.H.TreeHash.digest_length log edge c.requires.widths is level (omega arith) in
    c.in_err-bring_row.ensures.honest entries size
    (honest_between may failed asked digest entries size so so so c.args.places.now c.loop-done.places z z
    (g.D.Shelf.puts c.args.shelf.now) (g.D.Shelf.puts c.loop-done.shelf) c.loop-done.invariant.asks c.bring_row.ensures.asks
    (asks_same may failed asked so z) c.loop-done.invariant.taken h)
    tip (subst (λ i. IsTileRow digest log level i c.row.result.now) (sym at)
    (subst (λ (r : List (List ℕ)). IsTileRow digest log level (edge_index_of edge.size level) r) (sym c.row.ensures) there)))

pub returns-in_err-bring_row-clause-once : goal.returns-in_err-bring_row-clause-once
returns-in_err-bring_row-clause-once g c =
    let l = 7 - c.loop-done.done in
    once_longer g.S.Source.asked 7 0 (c.args.edge.now.size / 256 ^ l * 256 ^ l) c.args.edge.now.size
    (div-mul-le_self c.args.edge.now.size (256 ^ l)) c.args.places.now c.bring_row.new.places
    (let level = 7 - c.loop-done.done in
    let edge = c.args.edge.now in
    let n = edge.size in
    let at : c.edge_index-index.result ≡ edge_index_of n level =
    c.edge_index-index.ensures ∙ ap (λ k. edge_index_of k level) c.size.ensures in
    let end = ap (λ k. (256 * k + length c.row.result.now) * 256 ^ level) at
    ∙ (ap (λ (r : List (List ℕ)). (256 * edge_index_of n level + length r) * 256 ^ level) c.row.ensures
    ∙ row_end edge c.requires.widths level (omega arith)) in
    let row = subst (λ t. AsksOnce g.S.Source.asked (λ k. IsFullBetween level (n / 256 ^ (level + 1) * 256 ^ (level + 1)) t)
    c.loop-done.places c.bring_row.new.places) end
    (subst (λ i. AsksOnce g.S.Source.asked (λ k. IsFullBetween level (i * 256 ^ (level + 1))
    ((256 * c.edge_index-index.result + length c.row.result.now) * 256 ^ level)) c.loop-done.places c.bring_row.new.places) at
    c.bring_row.ensures.once) in
    once_row g.S.Source.asked n level (omega arith) c.args.places.now c.loop-done.places c.bring_row.new.places c.loop-done.invariant.once row)

pub returns-clause-once : goal.returns-clause-once
returns-clause-once g c =
    let l = 7 - c.loop-done.done + 1 in
    once_longer g.S.Source.asked 7 0 (c.args.edge.now.size / 256 ^ l * 256 ^ l) c.args.edge.now.size
    (div-mul-le_self c.args.edge.now.size (256 ^ l)) c.args.places.now c.loop-done.places c.loop-done.invariant.once

pub returns-in_err-bring_row-clause-counted : goal.returns-in_err-bring_row-clause-counted
returns-in_err-bring_row-clause-counted g c =
    counted_exit c.from_residual.result c.in_err-bring_row.field-0.0 c.from_residual.ensures (g.D.Shelf.failed c.args.shelf.now)
    (g.D.Shelf.failed c.loop-done.shelf) (g.D.Shelf.failed c.bring_row.new.shelf) c.loop-done.invariant.counted c.in_err-bring_row.ensures.counted

pub returns-in_err-bring_row-clause-blames : goal.returns-in_err-bring_row-clause-blames
returns-in_err-bring_row-clause-blames g c =
    err_exit _ c.from_residual.result c.in_err-bring_row.field-0.0 c.from_residual.ensures c.in_err-bring_row.ensures.blames

pub returns-in_err-bring_row-clause-empty : goal.returns-in_err-bring_row-clause-empty
returns-in_err-bring_row-clause-empty g c =
    err_exit _ c.from_residual.result c.in_err-bring_row.field-0.0 c.from_residual.ensures c.in_err-bring_row.ensures.empty

-- ---- the files to flush

pub returns-clause-secured : goal.returns-clause-secured
returns-clause-secured g c =
    let end : 8 - c.loop-done.done ≡ 1 = omega arith in
    subst (λ k. Secures (IsNewInEdge c.args.tip.now.size c.args.edge.now.size k) (g.D.Shelf.flushes c.args.shelf.now)
    (g.D.Shelf.flushes c.loop-done.shelf)) end c.loop-done.invariant.secured

-- ---- what differs

pub returns-in_err-bring_row-clause-differs : goal.returns-in_err-bring_row-clause-differs
returns-in_err-bring_row-clause-differs g c =
    let digest = g.H.TreeHash.digest in
    let edge = c.args.edge.now in
    let level = 7 - c.loop-done.done in
    let at : c.edge_index-index.result ≡ edge_index_of edge.size level =
    c.edge_index-index.ensures ∙ ap (λ n. edge_index_of n level) c.size.ensures in
    err_exit _ c.from_residual.result c.in_err-bring_row.field-0.0 c.from_residual.ensures
    (c.in_err-bring_row.ensures.differs edge
    (subst (λ k. IsShownRow digest edge level k c.row.result.now) (sym at)
    (subst (λ (r : List (List ℕ)). IsShownRow digest edge level (edge_index_of edge.size level) r) (sym c.row.ensures)
    (edge_shown digest edge level (omega arith)))))
