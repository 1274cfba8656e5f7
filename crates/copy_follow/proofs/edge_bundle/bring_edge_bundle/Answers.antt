use Rattle.std.proofs.Common.{rules, ◌≡◌, ◌⊎◌, ◌+◌, ◌*◌, ◌≤◌, ℕ, List, [], ◌∷◌, length, take, refl, subst, sym, ap, ◌∙◌, arith}
use Rattle.tlog_shape.specs.Edge.{edge_index_of, width_of}
use Rattle.tlog_tiles.specs.declared.paths.Path.TheVariants.{Entries}
use Rattle.mirror_sources.specs.Recorded.{KeepsRecord, AddsToRecord}
use Rattle.copy_follow.specs.Standing.{RecordsStands}
use Rattle.log_reader.specs.Verified.{HasLeaves}
use Rattle.log_reader.specs.EdgeRows.{row_at}
use Rattle.copy_follow.specs.Asked.{IsEdgeBundle}
use Rattle.copy_places.specs.Asked.{IsPathOrFull}
use Rattle.std.specs.Prelude.{IsFalse, IsNone}
use Rattle.tlog_tiles.specs.Bundle.{IsBundle}
use Rattle.tlog_tiles.proofs.EdgeLemmas.{hashes_of}
use Rattle.copy_follow.specs.Suffices.{IsTileRow}
use Rattle.copy_places.specs.TrueAnswers.{HasTrueLeaves}
use Rattle.copy_follow.proofs.Spared.{edge_bundle_true, edge_row_true, spared, spared_answer, true_leaves}
use Rattle.copy_follow.proofs.TipTruth.{bundle_begins, of_none, row_begins}
use Rattle.copy_places.proofs.Asking.{asks_same, asks_weaker}
use Rattle.copy_follow.proofs.NewFulls.{edge_bundle_asked}
use Rattle.copy_follow.proofs.Growth.{kept_same, left_none}
use Rattle.copy_follow.proofs.Finishing.{brings_last, last_left, last_none, last_some}
use Rattle.copy_follow.proofs.EmptyTips.{bundle_after, row_after}
use Rattle.copy_places.proofs.AskingOnce.{once_same, once_weaker}
use Rattle.copy_follow.proofs.Between.{bundle_partial}
use Rattle.copy_follow.proofs.Exits.{counted_last, no_place}
use Rattle.copy_follow.proofs.Earlier.{early_result}
use Rattle.copy_follow.proofs.Spared.{err_weaker}
use Rattle.copy_follow.specs.Conflicts.{IsNoConflict}
use Rattle.copy_follow.specs.Faults.{BlamesPlaces, IsOfNoPlace}
use Rattle.std.proofs.Common.{Err}
use Rattle.copy_follow.proofs.Secured.{after_still, no_bundle, ok_weaker, one_bundle}
use Rattle.log_reader.specs.Ways.{IsShownRow}
use Rattle.copy_follow.proofs.Differing.{differs_none, edge_shown, other_row, row_some}
use Rattle.copy_follow.proofs.edge_bundle.bring_edge_bundle.Goals as goal

pub returns-then-is_empty-clause-brings : goal.returns-then-is_empty-clause-brings
returns-then-is_empty-clause-brings g c = λ known is.
    let none : length c.row-row.result.now ≡ 0 = search rules in
    last_none g.H.TreeHash.digest c.args.tip.now c.args.edge.now c.requires.widths c.requires.larger known is
    (g.D.Shelf.puts c.args.shelf.now) (subst (λ (r : List (List ℕ)). length r ≡ 0) c.row-row.ensures none)

pub returns-then-is_none-clause-brings : goal.returns-then-is_none-clause-brings
returns-then-is_none-clause-brings g c = λ known is.
    left_none g.H.TreeHash.digest c.args.tip.now.size known (g.D.Shelf.puts c.args.shelf.now)
    (g.D.Shelf.puts c.args.shelf.now) (kept_same (g.D.Shelf.puts c.args.shelf.now))

pub returns-in-Err-clause-brings : goal.returns-in-Err-clause-brings
returns-in-Err-clause-brings g c = λ known is.
    (left_none g.H.TreeHash.digest c.args.tip.now.size known (g.D.Shelf.puts c.args.shelf.now)
    (g.D.Shelf.puts c.find_edge_bundle.new.shelf) c.find_edge_bundle.ensures.same)

pub returns-then-not-goes_on-clause-brings : goal.returns-then-not-goes_on-clause-brings
returns-then-not-goes_on-clause-brings g c = λ known is.
    left_none g.H.TreeHash.digest c.args.tip.now.size known (g.D.Shelf.puts c.args.shelf.now)
    (g.D.Shelf.puts c.find_edge_bundle.new.shelf) c.find_edge_bundle.ensures.same

pub returns-clause-brings : goal.returns-clause-brings
returns-clause-brings g c = λ known is.
    let digest = g.H.TreeHash.digest in
    let tip = c.args.tip.now in
    let edge = c.args.edge.now in
    let index = edge_index_of edge.size 0 in
    let row = row_at edge 0 in
    let width = length row in
    let bytes = c.in-Ok.bytes.items in
    let x = g.D.Shelf.puts c.args.shelf.now in
    let y = g.D.Shelf.puts c.find_edge_bundle.new.shelf in
    let z = g.D.Shelf.puts c.keep.new.shelf in
    let some : 1 ≤ length c.row-row.result.now = search rules in
    let some_row = subst (λ (r : List (List ℕ)). 1 ≤ length r) c.row-row.ensures some in
    let v = subst (λ (r : List (List ℕ)). HasLeaves digest (length r) bytes r) c.row-row.ensures c.in-Ok.ensures.found in
    let at : c.edge_index-index.result ≡ index = c.edge_index-index.ensures ∙ ap (λ n. edge_index_of n 0) c.size.ensures in
    let there : c.edge_index-index.result ≡ edge_index_of tip.size 0 →
    take (length tip.bundle) c.deref.result.now ≡ tip.bundle = search rules in
    let goes_on = subst (λ b. index ≡ edge_index_of tip.size 0 → take (length tip.bundle) b ≡ tip.bundle) c.deref.ensures.value
    (subst (λ k. k ≡ edge_index_of tip.size 0 → take (length tip.bundle) c.deref.result.now ≡ tip.bundle) at there) in
    let width_is : width ≡ width_of edge.size 0 = c.requires.widths 0 (omega arith) in
    let path : Entries c.edge_index-index.result (length c.row-row.result.now) ≡ Entries index width =
    λ j. Entries (at j) (length (c.row-row.ensures j)) in
    let puts = subst (λ p. (KeepsRecord y z) ⊎ (AddsToRecord y z ((p, c.deref-2.result.now) ∷ []))) path c.keep.ensures.puts in
    let puts_bytes = subst (λ b. (KeepsRecord y z) ⊎ (AddsToRecord y z ((Entries index width, b) ∷ []))) c.deref-2.ensures.value puts in
    brings_last digest tip.size edge known x z c.keep.result
    (RecordsStands y z (Entries c.edge_index-index.result (length c.row-row.result.now)) c.deref-2.result.now)
    c.keep.ensures.stands
    (λ stands. last_some digest tip edge c.requires.widths c.requires.larger known is width some_row width_is bytes v goes_on
    x y z c.find_edge_bundle.ensures.same puts_bytes
    (subst (λ b. RecordsStands y z (Entries index width) b) c.deref-2.ensures.value
    (subst (λ p. RecordsStands y z p c.deref-2.result.now) path stands)))
    (last_left digest tip edge c.requires.widths c.requires.larger known is width some_row width_is bytes v goes_on
    x y z c.find_edge_bundle.ensures.same puts_bytes)

pub returns-then-is_empty-clause-asks : goal.returns-then-is_empty-clause-asks
returns-then-is_empty-clause-asks g c = asks_same g.S.Source.may_answer g.S.Source.failed g.S.Source.asked (IsEdgeBundle c.args.edge.now.size) c.args.places.now

pub returns-then-is_none-clause-asks : goal.returns-then-is_none-clause-asks
returns-then-is_none-clause-asks g c = asks_same g.S.Source.may_answer g.S.Source.failed g.S.Source.asked (IsEdgeBundle c.args.edge.now.size) c.args.places.now

pub returns-in-Err-clause-asks : goal.returns-in-Err-clause-asks
returns-in-Err-clause-asks g c =
    let some : 1 ≤ length c.row-row.result.now = search rules in
    let at : c.edge_index-index.result ≡ edge_index_of c.args.edge.now.size 0 =
    c.edge_index-index.ensures ∙ ap (λ n. edge_index_of n 0) c.size.ensures in
    let wide : length c.row-row.result.now ≡ width_of c.args.edge.now.size 0 =
    ap length c.row-row.ensures ∙ c.requires.widths 0 (omega arith) in
    asks_weaker g.S.Source.may_answer g.S.Source.failed g.S.Source.asked (IsPathOrFull (Entries c.edge_index-index.result (length c.row-row.result.now)))
    (IsEdgeBundle c.args.edge.now.size)
    (edge_bundle_asked c.args.edge.now.size c.edge_index-index.result (length c.row-row.result.now) at wide some)
    c.args.places.now c.find_edge_bundle.new.places c.find_edge_bundle.ensures.asks

pub returns-then-not-goes_on-clause-asks : goal.returns-then-not-goes_on-clause-asks
returns-then-not-goes_on-clause-asks g c =
    let some : 1 ≤ length c.row-row.result.now = search rules in
    let at : c.edge_index-index.result ≡ edge_index_of c.args.edge.now.size 0 =
    c.edge_index-index.ensures ∙ ap (λ n. edge_index_of n 0) c.size.ensures in
    let wide : length c.row-row.result.now ≡ width_of c.args.edge.now.size 0 =
    ap length c.row-row.ensures ∙ c.requires.widths 0 (omega arith) in
    asks_weaker g.S.Source.may_answer g.S.Source.failed g.S.Source.asked (IsPathOrFull (Entries c.edge_index-index.result (length c.row-row.result.now)))
    (IsEdgeBundle c.args.edge.now.size)
    (edge_bundle_asked c.args.edge.now.size c.edge_index-index.result (length c.row-row.result.now) at wide some)
    c.args.places.now c.find_edge_bundle.new.places c.find_edge_bundle.ensures.asks

pub returns-clause-asks : goal.returns-clause-asks
returns-clause-asks g c =
    let some : 1 ≤ length c.row-row.result.now = search rules in
    let at : c.edge_index-index.result ≡ edge_index_of c.args.edge.now.size 0 =
    c.edge_index-index.ensures ∙ ap (λ n. edge_index_of n 0) c.size.ensures in
    let wide : length c.row-row.result.now ≡ width_of c.args.edge.now.size 0 =
    ap length c.row-row.ensures ∙ c.requires.widths 0 (omega arith) in
    asks_weaker g.S.Source.may_answer g.S.Source.failed g.S.Source.asked (IsPathOrFull (Entries c.edge_index-index.result (length c.row-row.result.now)))
    (IsEdgeBundle c.args.edge.now.size)
    (edge_bundle_asked c.args.edge.now.size c.edge_index-index.result (length c.row-row.result.now) at wide some)
    c.args.places.now c.find_edge_bundle.new.places c.find_edge_bundle.ensures.asks

pub returns-then-is_none-clause-honest : goal.returns-then-is_none-clause-honest
returns-then-is_none-clause-honest g c = λ entries size h t is.
    let digest = g.H.TreeHash.digest in
    let log = take size entries in
    let edge = c.args.edge.now in
    let at : c.edge_index-index.result ≡ edge_index_of edge.size 0 =
    c.edge_index-index.ensures ∙ ap (λ n. edge_index_of n 0) c.size.ensures in
    let there = edge_row_true digest g.met.H.TreeHash.digest_length log edge c.requires.widths is 0 (omega arith) in
    let row = subst (λ (r : List (List ℕ)). IsTileRow digest log 0 (edge_index_of edge.size 0) r) (sym c.row-row.ensures) there in
    let none : IsNone c.first_new.result = search rules in
    row_begins digest c.args.tip.now log t 0 c.edge_index-index.result c.row-row.result.now (omega arith)
    (subst (λ i. IsTileRow digest log 0 i c.row-row.result.now) (sym at) row) (of_none c.first_new.result none c.first_new.ensures.none) ⊥
    (of_none c.first_new.result none c.first_new.ensures.differs)

pub returns-in-Err-clause-honest : goal.returns-in-Err-clause-honest
returns-in-Err-clause-honest g c =
    (λ entries size h t is.
    let digest = g.H.TreeHash.digest in
    let edge = c.args.edge.now in
    let index = c.edge_index-index.result in
    let row = c.row-row.result.now in
    let at : index ≡ edge_index_of edge.size 0 = c.edge_index-index.ensures ∙ ap (λ n. edge_index_of n 0) c.size.ensures in
    let some : 1 ≤ length row = search rules in
    let leaves = subst (λ (r : List (List ℕ)). HasTrueLeaves digest entries (Entries index (length row)) r) (sym c.row-row.ensures)
    (true_leaves digest entries size h.upto edge c.requires.widths is index (length row) at (ap length c.row-row.ensures) some) in
    spared c.in-Err.fault (c.in-Err.ensures.suffices entries h.short leaves h.place) c.in-Err.ensures.fault)

pub returns-then-not-goes_on-clause-honest : goal.returns-then-not-goes_on-clause-honest
returns-then-not-goes_on-clause-honest g c = λ entries size h t is.
    let digest = g.H.TreeHash.digest in
    let log = take size entries in
    let edge = c.args.edge.now in
    let index = c.edge_index-index.result in
    let row = c.row-row.result.now in
    let bytes = c.in-Ok.bytes.items in
    let v = c.in-Ok.ensures.found in
    let at : index ≡ edge_index_of edge.size 0 = c.edge_index-index.ensures ∙ ap (λ n. edge_index_of n 0) c.size.ensures in
    let clean = h.clear.bundle index (length row) bytes v.entries c.in-Ok.ensures.taken v.is_bundle in
    let true = edge_bundle_true digest g.met.H.TreeHash.digest_length log edge c.requires.widths is index (length row) bytes row at
    c.row-row.ensures refl v clean in
    let no : IsFalse c.goes_on.result = search rules in
    let there = subst (λ (b : List ℕ). IsBundle (length row) b v.entries) (sym c.deref.ensures.value) v.is_bundle in
    let larger = c.requires.larger in
    let wide : length row ≡ width_of edge.size 0 = ap length c.row-row.ensures ∙ c.requires.widths 0 (omega arith) in
    let sum : 256 * index + length row ≡ edge.size = omega (arith, at, wide, hashes_of edge.size 0) in
    bundle_begins digest c.args.tip.now log t index (length row) c.deref.result.now v.entries there true
    (c.goes_on.ensures.other no) (omega (arith, sum, larger)) ⊥ (c.goes_on.ensures.differs no)

pub returns-clause-honest : goal.returns-clause-honest
returns-clause-honest g c =
    spared_answer c.keep.result _ (λ e so entries size h t is. so) c.keep.ensures.places c.keep.ensures.fault

pub returns-then-is_none-clause-empty : goal.returns-then-is_none-clause-empty
returns-then-is_none-clause-empty g c = λ k.
    let none : IsNone c.first_new.result = search rules in
    row_after g.H.TreeHash.digest c.args.tip.now k 0 (omega arith) c.row-row.result.now ⊥
    (of_none c.first_new.result none c.first_new.ensures.differs)

pub returns-then-not-goes_on-clause-empty : goal.returns-then-not-goes_on-clause-empty
returns-then-not-goes_on-clause-empty g c = λ k.
    let no : IsFalse c.goes_on.result = search rules in
    bundle_after g.H.TreeHash.digest c.args.tip.now k c.deref.result.now ⊥ (c.goes_on.ensures.differs no)

pub returns-then-is_empty-clause-once : goal.returns-then-is_empty-clause-once
returns-then-is_empty-clause-once g c =
    once_same g.S.Source.asked (λ k. IsEdgeBundle c.args.edge.now.size) c.args.places.now

pub returns-then-is_none-clause-once : goal.returns-then-is_none-clause-once
returns-then-is_none-clause-once g c =
    once_same g.S.Source.asked (λ k. IsEdgeBundle c.args.edge.now.size) c.args.places.now

pub returns-in-Err-clause-once : goal.returns-in-Err-clause-once
returns-in-Err-clause-once g c =
    let some : 1 ≤ length c.row-row.result.now = search rules in
    let at : c.edge_index-index.result ≡ edge_index_of c.args.edge.now.size 0 =
    c.edge_index-index.ensures ∙ ap (λ n. edge_index_of n 0) c.size.ensures in
    let wide : length c.row-row.result.now ≡ width_of c.args.edge.now.size 0 =
    ap length c.row-row.ensures ∙ c.requires.widths 0 (omega arith) in
    let path = Entries c.edge_index-index.result (length c.row-row.result.now) in
    once_weaker g.S.Source.asked (λ k. IsPathOrFull path) (λ k. IsEdgeBundle c.args.edge.now.size)
    (λ k. edge_bundle_asked c.args.edge.now.size c.edge_index-index.result (length c.row-row.result.now) at wide some)
    c.args.places.now c.find_edge_bundle.new.places (c.find_edge_bundle.ensures.once
    (bundle_partial c.edge_index-index.result (length c.row-row.result.now) c.args.edge.now.size wide))

pub returns-then-not-goes_on-clause-once : goal.returns-then-not-goes_on-clause-once
returns-then-not-goes_on-clause-once g c =
    let some : 1 ≤ length c.row-row.result.now = search rules in
    let at : c.edge_index-index.result ≡ edge_index_of c.args.edge.now.size 0 =
    c.edge_index-index.ensures ∙ ap (λ n. edge_index_of n 0) c.size.ensures in
    let wide : length c.row-row.result.now ≡ width_of c.args.edge.now.size 0 =
    ap length c.row-row.ensures ∙ c.requires.widths 0 (omega arith) in
    let path = Entries c.edge_index-index.result (length c.row-row.result.now) in
    once_weaker g.S.Source.asked (λ k. IsPathOrFull path) (λ k. IsEdgeBundle c.args.edge.now.size)
    (λ k. edge_bundle_asked c.args.edge.now.size c.edge_index-index.result (length c.row-row.result.now) at wide some)
    c.args.places.now c.find_edge_bundle.new.places (c.find_edge_bundle.ensures.once
    (bundle_partial c.edge_index-index.result (length c.row-row.result.now) c.args.edge.now.size wide))

pub returns-clause-once : goal.returns-clause-once
returns-clause-once g c =
    let some : 1 ≤ length c.row-row.result.now = search rules in
    let at : c.edge_index-index.result ≡ edge_index_of c.args.edge.now.size 0 =
    c.edge_index-index.ensures ∙ ap (λ n. edge_index_of n 0) c.size.ensures in
    let wide : length c.row-row.result.now ≡ width_of c.args.edge.now.size 0 =
    ap length c.row-row.ensures ∙ c.requires.widths 0 (omega arith) in
    let path = Entries c.edge_index-index.result (length c.row-row.result.now) in
    once_weaker g.S.Source.asked (λ k. IsPathOrFull path) (λ k. IsEdgeBundle c.args.edge.now.size)
    (λ k. edge_bundle_asked c.args.edge.now.size c.edge_index-index.result (length c.row-row.result.now) at wide some)
    c.args.places.now c.find_edge_bundle.new.places (c.find_edge_bundle.ensures.once
    (bundle_partial c.edge_index-index.result (length c.row-row.result.now) c.args.edge.now.size wide))

pub returns-in-Err-clause-counted : goal.returns-in-Err-clause-counted
returns-in-Err-clause-counted g c =
    c.in-Err.ensures.counted

pub returns-in-Err-clause-blames : goal.returns-in-Err-clause-blames
returns-in-Err-clause-blames g c =
    c.in-Err.ensures.blames

pub returns-in-Err-clause-early : goal.returns-in-Err-clause-early
returns-in-Err-clause-early g c =
    early_result {T = Unit {0}} (edge_index_of c.args.edge.now.size 0 * 256) c.args.tip.now.size
    (g.D.Shelf.puts c.args.shelf.now) (g.D.Shelf.puts c.find_edge_bundle.new.shelf) (Err c.in-Err.fault) (c.in-Err.ensures.fault)

pub returns-in-Err-clause-empty : goal.returns-in-Err-clause-empty
returns-in-Err-clause-empty g c =
    (λ is. c.in-Err.ensures.fault)

pub returns-clause-counted : goal.returns-clause-counted
returns-clause-counted g c =
    counted_last c.keep.result (g.D.Shelf.failed c.args.shelf.now) (g.D.Shelf.failed c.find_edge_bundle.new.shelf) (g.D.Shelf.failed c.keep.new.shelf)
    c.in-Ok.ensures.counted c.keep.ensures.counted

pub returns-clause-blames : goal.returns-clause-blames
returns-clause-blames g c =
    err_weaker c.keep.result IsOfNoPlace (BlamesPlaces c.find_edge_bundle.new.places)
    (no_place c.find_edge_bundle.new.places) c.keep.ensures.places

pub returns-clause-early : goal.returns-clause-early
returns-clause-early g c =
    early_result (edge_index_of c.args.edge.now.size 0 * 256) c.args.tip.now.size
    (g.D.Shelf.puts c.args.shelf.now) (g.D.Shelf.puts c.keep.new.shelf) c.keep.result c.keep.ensures.fault

pub returns-clause-empty : goal.returns-clause-empty
returns-clause-empty g c =
    err_weaker c.keep.result IsNoConflict _ (λ e h is. h) c.keep.ensures.fault

-- ---- the files to flush

pub returns-then-is_empty-clause-secured : goal.returns-then-is_empty-clause-secured
returns-then-is_empty-clause-secured g c =
    let none : length c.row-row.result.now ≡ 0 = search rules in
    no_bundle c.args.edge.now.size (sym none ∙ (ap length c.row-row.ensures ∙ c.requires.widths 0 (omega arith)))
    (g.D.Shelf.flushes c.args.shelf.now)

pub returns-clause-secured : goal.returns-clause-secured
returns-clause-secured g c =
    let flushes = g.D.Shelf.flushes in
    let n = c.args.edge.now.size in
    let at : c.edge_index-index.result ≡ edge_index_of n 0 = c.edge_index-index.ensures ∙ ap (λ k. edge_index_of k 0) c.size.ensures in
    let width : length c.row-row.result.now ≡ width_of n 0 = ap length c.row-row.ensures ∙ c.requires.widths 0 (omega arith) in
    let path = Entries c.edge_index-index.result (length c.row-row.result.now) in
    let same : path ≡ Entries (edge_index_of n 0) (width_of n 0) = λ j. Entries (at j) (width j) in
    ok_weaker c.keep.result (λ kept. one_bundle n path same (flushes c.args.shelf.now) (flushes c.keep.new.shelf)
    (after_still (λ p. p ≡ path) (flushes c.args.shelf.now) (flushes c.find_edge_bundle.new.shelf) (flushes c.keep.new.shelf)
    c.find_edge_bundle.ensures.still kept)) c.keep.ensures.secured

-- ---- what differs

pub returns-then-is_none-clause-differs : goal.returns-then-is_none-clause-differs
returns-then-is_none-clause-differs g c =
    let digest = g.H.TreeHash.digest in
    let edge = c.args.edge.now in
    let at : c.edge_index-index.result ≡ edge_index_of edge.size 0 =
    c.edge_index-index.ensures ∙ ap (λ n. edge_index_of n 0) c.size.ensures in
    let none : IsNone c.first_new.result = search rules in
    other_row digest edge c.args.tip.now 0 c.edge_index-index.result c.row-row.result.now
    (of_none c.first_new.result none c.first_new.ensures.none)
    (subst (λ k. IsShownRow digest edge 0 k c.row-row.result.now) (sym at)
    (subst (λ (r : List (List ℕ)). IsShownRow digest edge 0 (edge_index_of edge.size 0) r) (sym c.row-row.ensures)
    (edge_shown digest edge 0 (omega arith))))
    (of_none c.first_new.result none c.first_new.ensures.differs)

pub returns-in-Err-clause-differs : goal.returns-in-Err-clause-differs
returns-in-Err-clause-differs g c =
    differs_none g.H.TreeHash.digest c.args.edge.now c.args.tip.now c.in-Err.fault c.in-Err.ensures.fault

pub returns-then-not-goes_on-clause-differs : goal.returns-then-not-goes_on-clause-differs
returns-then-not-goes_on-clause-differs g c =
    let digest = g.H.TreeHash.digest in
    let edge = c.args.edge.now in
    let tip = c.args.tip.now in
    let index = c.edge_index-index.result in
    let row = c.row-row.result.now in
    let at : index ≡ edge_index_of edge.size 0 = c.edge_index-index.ensures ∙ ap (λ n. edge_index_of n 0) c.size.ensures in
    let no : IsFalse c.goes_on.result = search rules in
    let some : ¬ IsNone c.first_new.result = search rules in
    let there = c.goes_on.ensures.other no in
    let shown : IsShownRow digest edge 0 index row = subst (λ k. IsShownRow digest edge 0 k row) (sym at)
    (subst (λ (r : List (List ℕ)). IsShownRow digest edge 0 (edge_index_of edge.size 0) r) (sym c.row-row.ensures)
    (edge_shown digest edge 0 (omega arith))) in
    record {
      row = row;
      bytes = c.deref.result.now;
      shown = subst (λ k. IsShownRow digest edge 0 k row) there shown;
      begins = row_some tip 0 index row c.first_new.result some there c.first_new.ensures.first;
      leaves = subst (λ (b : List ℕ). HasLeaves digest (length row) b row) (sym c.deref.ensures.value) c.in-Ok.ensures.found;
      other = c.goes_on.ensures.differs no;
    }

pub returns-clause-differs : goal.returns-clause-differs
returns-clause-differs g c =
    err_weaker c.keep.result IsNoConflict _ (λ e h. differs_none g.H.TreeHash.digest c.args.edge.now c.args.tip.now e h)
    c.keep.ensures.fault
