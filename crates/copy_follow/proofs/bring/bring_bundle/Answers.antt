use Rattle.std.proofs.Common.{◌*◌, rules, ◌≡◌, ◌⊎◌, inl, inr, ◌∷◌, [], ℕ, List, IsFalse, length, take, get_or, subst, refl, sym, ap, ◌∙◌, arith}
use Rattle.tlog_shape.specs.Edge.{edge_index_of, width_of}
use Rattle.tlog_tiles.specs.Row.{row_text}
use Rattle.tlog_tiles.specs.declared.paths.Path.TheVariants.{Entries, Tile}
use Rattle.mirror_sources.specs.Recorded.{KeepsRecord, AddsToRecord}
use Rattle.copy_follow.specs.Standing.{RecordsStands}
use Rattle.copy_follow.specs.Asked.{IsNewFull}
use Rattle.tlog_tiles.specs.Bundle.{IsBundle}
use Rattle.copy_follow.specs.Suffices.{IsTileRow}
use Rattle.copy_places.proofs.Asking.{asks_same, asks_weaker}
use Rattle.copy_follow.proofs.OnePlace.{puts_after, puts_none, puts_one, puts_then}
use Rattle.copy_follow.proofs.Spared.{bundle_true, bundle_under, spared, spared_answer, spared_shelf}
use Rattle.copy_follow.proofs.TipTruth.{bundle_begins, row_begins}
use Rattle.copy_follow.proofs.NewFulls.{bundle_asked}
use Rattle.copy_follow.proofs.Growth.{left_none, brings_ok}
use Rattle.copy_follow.proofs.Bundles.{bundle_left, bundle_brought, tile_left}
use Rattle.copy_follow.proofs.EmptyTips.{bundle_after, row_after}
use Rattle.copy_follow.proofs.Exits.{counted_last, no_place}
use Rattle.copy_follow.specs.declared.bring_fault.BringFault.TheVariants.{OutOfMemory}
use Rattle.copy_follow.proofs.Earlier.{early_result}
use Rattle.copy_follow.proofs.Spared.{err_weaker}
use Rattle.copy_follow.specs.Conflicts.{IsNoConflict}
use Rattle.copy_follow.specs.Faults.{BlamesPlaces, IsOfNoPlace}
use Rattle.copy_follow.specs.Faults.{CountsFault}
use Rattle.std.proofs.Common.{Err}
use Rattle.copy_follow.proofs.Secured.{after_still, bundle_secured, ok_weaker}
use Rattle.log_reader.specs.Verified.{HasLeaves}
use Rattle.log_reader.specs.Ways.{IsShownRow}
use Rattle.copy_follow.proofs.Differing.{differs_none, leaf_hashes, other_row, row_start, under_shown}
use Rattle.copy_follow.proofs.bring.bring_bundle.Goals as goal

pub returns-in-Err-clause-brings : goal.returns-in-Err-clause-brings
returns-in-Err-clause-brings g c = λ known is.
    (left_none g.H.TreeHash.digest c.args.tip.now.size known (g.D.Shelf.puts c.args.shelf.now)
    (g.D.Shelf.puts c.find.new.shelf) c.find.ensures.same)

pub returns-in_default-clause-brings : goal.returns-in_default-clause-brings
returns-in_default-clause-brings g c = λ known is.
    left_none g.H.TreeHash.digest c.args.tip.now.size known (g.D.Shelf.puts c.args.shelf.now)
    (g.D.Shelf.puts c.find.new.shelf) c.find.ensures.same

pub returns-then-not-goes_on-clause-brings : goal.returns-then-not-goes_on-clause-brings
returns-then-not-goes_on-clause-brings g c = λ known is.
    left_none g.H.TreeHash.digest c.args.tip.now.size known (g.D.Shelf.puts c.args.shelf.now)
    (g.D.Shelf.puts c.find.new.shelf) c.find.ensures.same

pub returns-in-Err-write_row-clause-brings : goal.returns-in-Err-write_row-clause-brings
returns-in-Err-write_row-clause-brings g c = λ known is.
    (left_none g.H.TreeHash.digest c.args.tip.now.size known (g.D.Shelf.puts c.args.shelf.now)
    (g.D.Shelf.puts c.find.new.shelf) c.find.ensures.same)

pub returns-in-Err-keep-clause-brings : goal.returns-in-Err-keep-clause-brings
returns-in-Err-keep-clause-brings g c = λ known is.
    let bytes = c.in-Ok.found.bytes.items in
    let x = g.D.Shelf.puts c.args.shelf.now in
    let y = g.D.Shelf.puts c.find.new.shelf in
    let z = g.D.Shelf.puts c.keep.new.shelf in
    let v = c.in-Ok.ensures.found.is_row in
    let there : c.args.index ≡ edge_index_of c.args.tip.now.size 0 →
    take (length c.args.tip.now.bundle) c.deref-2.result.now ≡ c.args.tip.now.bundle = search rules in
    let goes_on = subst (λ b. c.args.index ≡ edge_index_of c.args.tip.now.size 0 →
    take (length c.args.tip.now.bundle) b ≡ c.args.tip.now.bundle) c.deref-2.ensures.value there in
    let puts = subst (λ b. (KeepsRecord y z) ⊎ (AddsToRecord y z ((Entries c.args.index 256, b) ∷ [])))
    c.deref-4.ensures.value c.keep.ensures.puts in
    (bundle_left g.H.TreeHash.digest c.args.tip.now c.args.index 256 (omega arith) (omega arith) known is (omega arith) bytes
    c.in-Ok.found.row.items v goes_on x y z c.find.ensures.same puts)

pub returns-clause-brings : goal.returns-clause-brings
returns-clause-brings g c = λ known is.
    let digest = g.H.TreeHash.digest in
    let bytes = c.in-Ok.found.bytes.items in
    let row = c.in-Ok.found.row.items in
    let x = g.D.Shelf.puts c.args.shelf.now in
    let y = g.D.Shelf.puts c.find.new.shelf in
    let z = g.D.Shelf.puts c.keep.new.shelf in
    let w = g.D.Shelf.puts c.keep-2.new.shelf in
    let found = c.in-Ok.ensures.found in
    let there : c.args.index ≡ edge_index_of c.args.tip.now.size 0 →
    take (length c.args.tip.now.bundle) c.deref-2.result.now ≡ c.args.tip.now.bundle = search rules in
    let goes_on = subst (λ b. c.args.index ≡ edge_index_of c.args.tip.now.size 0 →
    take (length c.args.tip.now.bundle) b ≡ c.args.tip.now.bundle) c.deref-2.ensures.value there in
    let puts = subst (λ b. (KeepsRecord y z) ⊎ (AddsToRecord y z ((Entries c.args.index 256, b) ∷ [])))
    c.deref-4.ensures.value c.keep.ensures.puts in
    let text = c.deref-5.ensures.value ∙ (c.in-Ok-write_row.ensures.text ∙ ap row_text c.deref-3.ensures.value) in
    let left = tile_left digest c.args.tip.now c.args.index 256 (omega arith) (omega arith) known is (omega arith) bytes row
    found.is_row goes_on x y z c.find.ensures.same puts w c.deref-5.result.now text c.keep-2.ensures.puts in
    let there = subst (λ b. RecordsStands y z (Entries c.args.index 256) b) c.deref-4.ensures.value c.in-Ok-keep.ensures.stands in
    brings_ok digest c.args.tip.now 0 c.args.index c.args.hash.now known x w c.keep-2.result
    (RecordsStands z w (Tile 0 c.args.index 256) c.deref-5.result.now) c.keep-2.ensures.stands
    (λ row_there. bundle_brought digest c.args.tip.now c.args.index 256 (omega arith) (omega arith) known is (omega arith)
    bytes row found.is_row goes_on x y z c.find.ensures.same puts w c.deref-5.result.now text c.keep-2.ensures.puts refl
    c.args.hash.now found.folds there row_there)
    left

pub returns-in-Err-clause-asks : goal.returns-in-Err-clause-asks
returns-in-Err-clause-asks g c =
    asks_weaker g.S.Source.may_answer g.S.Source.failed g.S.Source.asked (λ p. p ≡ Entries c.args.index 256)
    (IsNewFull c.args.tip.now.size) (bundle_asked c.args.tip.now.size c.args.index c.requires.beyond)
    c.args.places.now c.find.new.places c.find.ensures.asks

pub returns-in_default-clause-asks : goal.returns-in_default-clause-asks
returns-in_default-clause-asks g c =
    asks_weaker g.S.Source.may_answer g.S.Source.failed g.S.Source.asked (λ p. p ≡ Entries c.args.index 256)
    (IsNewFull c.args.tip.now.size) (bundle_asked c.args.tip.now.size c.args.index c.requires.beyond)
    c.args.places.now c.find.new.places c.find.ensures.asks

pub returns-then-not-goes_on-clause-asks : goal.returns-then-not-goes_on-clause-asks
returns-then-not-goes_on-clause-asks g c =
    asks_weaker g.S.Source.may_answer g.S.Source.failed g.S.Source.asked (λ p. p ≡ Entries c.args.index 256)
    (IsNewFull c.args.tip.now.size) (bundle_asked c.args.tip.now.size c.args.index c.requires.beyond)
    c.args.places.now c.find.new.places c.find.ensures.asks

pub returns-in-Err-write_row-clause-asks : goal.returns-in-Err-write_row-clause-asks
returns-in-Err-write_row-clause-asks g c =
    asks_weaker g.S.Source.may_answer g.S.Source.failed g.S.Source.asked (λ p. p ≡ Entries c.args.index 256)
    (IsNewFull c.args.tip.now.size) (bundle_asked c.args.tip.now.size c.args.index c.requires.beyond)
    c.args.places.now c.find.new.places c.find.ensures.asks

pub returns-in-Err-keep-clause-asks : goal.returns-in-Err-keep-clause-asks
returns-in-Err-keep-clause-asks g c =
    asks_weaker g.S.Source.may_answer g.S.Source.failed g.S.Source.asked (λ p. p ≡ Entries c.args.index 256)
    (IsNewFull c.args.tip.now.size) (bundle_asked c.args.tip.now.size c.args.index c.requires.beyond)
    c.args.places.now c.find.new.places c.find.ensures.asks

pub returns-clause-asks : goal.returns-clause-asks
returns-clause-asks g c =
    asks_weaker g.S.Source.may_answer g.S.Source.failed g.S.Source.asked (λ p. p ≡ Entries c.args.index 256)
    (IsNewFull c.args.tip.now.size) (bundle_asked c.args.tip.now.size c.args.index c.requires.beyond)
    c.args.places.now c.find.new.places c.find.ensures.asks

pub returns-in-Err-clause-taken : goal.returns-in-Err-clause-taken
returns-in-Err-clause-taken g c =
    puts_none g.S.Source.may_answer g.S.Source.failed g.S.Source.asked c.args.places.now (g.D.Shelf.puts c.args.shelf.now)
    (g.D.Shelf.puts c.find.new.shelf) c.find.ensures.same

pub returns-in_default-clause-taken : goal.returns-in_default-clause-taken
returns-in_default-clause-taken g c =
    puts_none g.S.Source.may_answer g.S.Source.failed g.S.Source.asked c.args.places.now (g.D.Shelf.puts c.args.shelf.now)
    (g.D.Shelf.puts c.find.new.shelf) c.find.ensures.same

pub returns-then-not-goes_on-clause-taken : goal.returns-then-not-goes_on-clause-taken
returns-then-not-goes_on-clause-taken g c =
    puts_none g.S.Source.may_answer g.S.Source.failed g.S.Source.asked c.args.places.now (g.D.Shelf.puts c.args.shelf.now)
    (g.D.Shelf.puts c.find.new.shelf) c.find.ensures.same

pub returns-in-Err-write_row-clause-taken : goal.returns-in-Err-write_row-clause-taken
returns-in-Err-write_row-clause-taken g c =
    puts_none g.S.Source.may_answer g.S.Source.failed g.S.Source.asked c.args.places.now (g.D.Shelf.puts c.args.shelf.now)
    (g.D.Shelf.puts c.find.new.shelf) c.find.ensures.same

pub returns-in-Err-keep-clause-taken : goal.returns-in-Err-keep-clause-taken
returns-in-Err-keep-clause-taken g c =
    let y = g.D.Shelf.puts c.find.new.shelf in
    let z = g.D.Shelf.puts c.keep.new.shelf in
    let puts = subst (λ b. (KeepsRecord y z) ⊎ (AddsToRecord y z ((Entries c.args.index 256, b) ∷ [])))
    c.deref-4.ensures.value c.keep.ensures.puts in
    puts_after g.S.Source.may_answer g.S.Source.failed g.S.Source.asked c.args.places.now (g.D.Shelf.puts c.args.shelf.now) y z
    (Entries c.args.index 256) c.in-Ok.found.bytes.items c.find.ensures.same puts (inr c.in-Ok.ensures.taken)

pub returns-clause-taken : goal.returns-clause-taken
returns-clause-taken g c =
    let may = g.S.Source.may_answer in
    let failed = g.S.Source.failed in
    let asked = g.S.Source.asked in
    let places = c.args.places.now in
    let x = g.D.Shelf.puts c.args.shelf.now in
    let y = g.D.Shelf.puts c.find.new.shelf in
    let z = g.D.Shelf.puts c.keep.new.shelf in
    let w = g.D.Shelf.puts c.keep-2.new.shelf in
    let puts = subst (λ b. (KeepsRecord y z) ⊎ (AddsToRecord y z ((Entries c.args.index 256, b) ∷ [])))
    c.deref-4.ensures.value c.keep.ensures.puts in
    let first = puts_after may failed asked places x y z (Entries c.args.index 256) c.in-Ok.found.bytes.items
    c.find.ensures.same puts (inr c.in-Ok.ensures.taken) in
    puts_then may failed asked (IsNewFull c.args.tip.now.size) places places
    (asks_same may failed asked (IsNewFull c.args.tip.now.size) places) x z w first
    (puts_one may failed asked places z w (Tile 0 c.args.index 256) c.deref-5.result.now c.keep-2.ensures.puts (inl refl))

pub returns-in-Err-clause-honest : goal.returns-in-Err-clause-honest
returns-in-Err-clause-honest g c =
    (λ entries size h t is.
    spared c.in-Err.fault (c.in-Err.ensures.suffices entries h.short
    (bundle_under g.H.TreeHash.digest entries size h.upto c.args.index c.args.hash.now is) h.place) c.in-Err.ensures.fault)

pub returns-in_default-clause-honest : goal.returns-in_default-clause-honest
returns-in_default-clause-honest g c = λ entries size h t is.
    let digest = g.H.TreeHash.digest in
    let log = take size entries in
    let index = c.args.index in
    let bytes = c.in-Ok.found.bytes.items in
    let row = c.in-Ok.found.row.items in
    let v = c.in-Ok.ensures.found in
    let clean = h.clear.bundle index 256 bytes v.is_row.entries (inl c.in-Ok.ensures.taken) v.is_row.is_bundle in
    let true = bundle_true digest g.met.H.TreeHash.digest_length log index c.args.hash.now bytes row v is clean in
    let there = subst (λ (r : List (List ℕ)). IsTileRow digest log 0 index r) (sym c.deref.ensures.value) true.0 in
    let at = rw c.in_default.is at c.first_new.ensures.none in
    row_begins digest c.args.tip.now log t 0 index c.deref.result.now (omega arith) there at ⊥
    (rw c.in_default.is at c.first_new.ensures.differs)

pub returns-then-not-goes_on-clause-honest : goal.returns-then-not-goes_on-clause-honest
returns-then-not-goes_on-clause-honest g c = λ entries size h t is.
    let digest = g.H.TreeHash.digest in
    let log = take size entries in
    let index = c.args.index in
    let bytes = c.in-Ok.found.bytes.items in
    let row = c.in-Ok.found.row.items in
    let v = c.in-Ok.ensures.found in
    let clean = h.clear.bundle index 256 bytes v.is_row.entries (inl c.in-Ok.ensures.taken) v.is_row.is_bundle in
    let true = bundle_true digest g.met.H.TreeHash.digest_length log index c.args.hash.now bytes row v is clean in
    let no : IsFalse c.goes_on.result = search rules in
    let there = subst (λ (b : List ℕ). IsBundle 256 b v.is_row.entries) (sym c.deref-2.ensures.value) v.is_row.is_bundle in
    let beyond = c.requires.beyond in
    bundle_begins digest c.args.tip.now log t index 256 c.deref-2.result.now v.is_row.entries there true.1
    (c.goes_on.ensures.other no) (omega arith) ⊥ (c.goes_on.ensures.differs no)

pub returns-in-Err-keep-clause-honest : goal.returns-in-Err-keep-clause-honest
returns-in-Err-keep-clause-honest g c =
    (λ entries size h t is.
    spared_shelf c.in-Err-keep.fault c.in-Err-keep.ensures.places c.in-Err-keep.ensures.fault)

pub returns-clause-honest : goal.returns-clause-honest
returns-clause-honest g c =
    spared_answer c.keep-2.result _ (λ e so entries size h t is. so) c.keep-2.ensures.places c.keep-2.ensures.fault

pub returns-in_default-clause-empty : goal.returns-in_default-clause-empty
returns-in_default-clause-empty g c = λ k.
    row_after g.H.TreeHash.digest c.args.tip.now k 0 (omega arith) c.deref.result.now ⊥
    (rw c.in_default.is at c.first_new.ensures.differs)

pub returns-then-not-goes_on-clause-empty : goal.returns-then-not-goes_on-clause-empty
returns-then-not-goes_on-clause-empty g c = λ k.
    let no : IsFalse c.goes_on.result = search rules in
    bundle_after g.H.TreeHash.digest c.args.tip.now k c.deref-2.result.now ⊥ (c.goes_on.ensures.differs no)

pub returns-in-Err-clause-counted : goal.returns-in-Err-clause-counted
returns-in-Err-clause-counted g c =
    c.in-Err.ensures.counted

pub returns-in-Err-clause-blames : goal.returns-in-Err-clause-blames
returns-in-Err-clause-blames g c =
    c.in-Err.ensures.blames

pub returns-in-Err-clause-early : goal.returns-in-Err-clause-early
returns-in-Err-clause-early g c =
    early_result {T = Unit {0}} (c.args.index * 256) c.args.tip.now.size (g.D.Shelf.puts c.args.shelf.now)
    (g.D.Shelf.puts c.find.new.shelf) (Err c.in-Err.fault) (c.in-Err.ensures.fault)

pub returns-in-Err-clause-empty : goal.returns-in-Err-clause-empty
returns-in-Err-clause-empty g c =
    (λ is. c.in-Err.ensures.fault)

pub returns-in-Err-write_row-clause-counted : goal.returns-in-Err-write_row-clause-counted
returns-in-Err-write_row-clause-counted g c =
    (subst (λ n. CountsFault n (g.D.Shelf.failed c.find.new.shelf) OutOfMemory) c.in-Ok.ensures.counted refl)

pub returns-in-Err-write_row-clause-blames : goal.returns-in-Err-write_row-clause-blames
returns-in-Err-write_row-clause-blames g c =
    tt

pub returns-in-Err-write_row-clause-early : goal.returns-in-Err-write_row-clause-early
returns-in-Err-write_row-clause-early g c =
    early_result {T = Unit {0}} (c.args.index * 256) c.args.tip.now.size (g.D.Shelf.puts c.args.shelf.now)
    (g.D.Shelf.puts c.find.new.shelf) (Err OutOfMemory) (tt)

pub returns-in-Err-write_row-clause-empty : goal.returns-in-Err-write_row-clause-empty
returns-in-Err-write_row-clause-empty g c =
    (λ is. tt)

pub returns-in-Err-write_row-clause-honest : goal.returns-in-Err-write_row-clause-honest
returns-in-Err-write_row-clause-honest g c =
    (λ entries size h t is. tt)

pub returns-in-Err-keep-clause-counted : goal.returns-in-Err-keep-clause-counted
returns-in-Err-keep-clause-counted g c =
    (subst (λ n. CountsFault n (g.D.Shelf.failed c.keep.new.shelf) c.in-Err-keep.fault) c.in-Ok.ensures.counted c.in-Err-keep.ensures.counted)

pub returns-in-Err-keep-clause-blames : goal.returns-in-Err-keep-clause-blames
returns-in-Err-keep-clause-blames g c =
    (no_place c.find.new.places c.in-Err-keep.fault c.in-Err-keep.ensures.places)

pub returns-in-Err-keep-clause-early : goal.returns-in-Err-keep-clause-early
returns-in-Err-keep-clause-early g c =
    early_result {T = Unit {0}} (c.args.index * 256) c.args.tip.now.size (g.D.Shelf.puts c.args.shelf.now)
    (g.D.Shelf.puts c.keep.new.shelf) (Err c.in-Err-keep.fault) (c.in-Err-keep.ensures.fault)

pub returns-in-Err-keep-clause-empty : goal.returns-in-Err-keep-clause-empty
returns-in-Err-keep-clause-empty g c =
    (λ is. c.in-Err-keep.ensures.fault)

pub returns-clause-counted : goal.returns-clause-counted
returns-clause-counted g c =
    counted_last c.keep-2.result (g.D.Shelf.failed c.args.shelf.now) (g.D.Shelf.failed c.keep.new.shelf) (g.D.Shelf.failed c.keep-2.new.shelf)
    (c.in-Ok-keep.ensures.counted ∙ c.in-Ok.ensures.counted) c.keep-2.ensures.counted

pub returns-clause-blames : goal.returns-clause-blames
returns-clause-blames g c =
    err_weaker c.keep-2.result IsOfNoPlace (BlamesPlaces c.find.new.places) (no_place c.find.new.places) c.keep-2.ensures.places

pub returns-clause-early : goal.returns-clause-early
returns-clause-early g c =
    early_result (c.args.index * 256) c.args.tip.now.size (g.D.Shelf.puts c.args.shelf.now)
    (g.D.Shelf.puts c.keep-2.new.shelf) c.keep-2.result c.keep-2.ensures.fault

pub returns-clause-empty : goal.returns-clause-empty
returns-clause-empty g c =
    err_weaker c.keep-2.result IsNoConflict _ (λ e h is. h) c.keep-2.ensures.fault

-- ---- the files to flush

pub returns-clause-secured : goal.returns-clause-secured
returns-clause-secured g c =
    let flushes = g.D.Shelf.flushes in
    let index = c.args.index in
    let bundle = after_still (λ p. p ≡ Entries index 256) (flushes c.args.shelf.now) (flushes c.find.new.shelf)
    (flushes c.keep.new.shelf) c.find.ensures.still c.in-Ok-keep.ensures.secured in
    ok_weaker c.keep-2.result (λ tile. bundle_secured c.args.tip.now.size index (flushes c.args.shelf.now)
    (flushes c.keep.new.shelf) (flushes c.keep-2.new.shelf) bundle tile) c.keep-2.ensures.secured

-- ---- what differs

pub returns-in-Err-clause-differs : goal.returns-in-Err-clause-differs
returns-in-Err-clause-differs g c = λ larger s.
    differs_none g.H.TreeHash.digest larger c.args.tip.now c.in-Err.fault c.in-Err.ensures.fault

pub returns-in_default-clause-differs : goal.returns-in_default-clause-differs
returns-in_default-clause-differs g c = λ larger s.
    let digest = g.H.TreeHash.digest in
    let row = c.in-Ok.found.row.items in
    let v = c.in-Ok.ensures.found in
    let hashes = leaf_hashes digest g.met.H.TreeHash.digest_length c.in-Ok.found.bytes.items row v.is_row in
    let shown = under_shown digest larger 0 c.args.index c.args.hash.now row hashes v.folds s in
    other_row digest larger c.args.tip.now 0 c.args.index c.deref.result.now (rw c.in_default.is at c.first_new.ensures.none)
    (subst (λ (r : List (List ℕ)). IsShownRow digest larger 0 c.args.index r) (sym c.deref.ensures.value) shown)
    (rw c.in_default.is at c.first_new.ensures.differs)

pub returns-then-not-goes_on-clause-differs : goal.returns-then-not-goes_on-clause-differs
returns-then-not-goes_on-clause-differs g c = λ larger s.
    let digest = g.H.TreeHash.digest in
    let row = c.in-Ok.found.row.items in
    let v = c.in-Ok.ensures.found in
    let no : IsFalse c.goes_on.result = search rules in
    let at = c.goes_on.ensures.other no in
    let hashes = leaf_hashes digest g.met.H.TreeHash.digest_length c.in-Ok.found.bytes.items row v.is_row in
    let shown = under_shown digest larger 0 c.args.index c.args.hash.now row hashes v.folds s in
    let there = subst (λ (r : List (List ℕ)). take (width_of c.args.tip.now.size 0) r ≡ get_or c.args.tip.now.rows 0 []) c.deref.ensures.value
    (row_start c.args.tip.now 0 c.args.index c.in-Some._first c.deref.result.now at (rw c.in-Some.is at c.first_new.ensures.first)) in
    let leaves = subst (λ (n : ℕ). HasLeaves digest n c.in-Ok.found.bytes.items row) (sym hashes.count) v.is_row in
    record {
      row = row;
      bytes = c.deref-2.result.now;
      shown = subst (λ i. IsShownRow digest larger 0 i row) at shown;
      begins = there;
      leaves = subst (λ (b : List ℕ). HasLeaves digest (length row) b row) (sym c.deref-2.ensures.value) leaves;
      other = c.goes_on.ensures.differs no;
    }

pub returns-in-Err-write_row-clause-differs : goal.returns-in-Err-write_row-clause-differs
returns-in-Err-write_row-clause-differs g c = λ larger s. tt

pub returns-in-Err-keep-clause-differs : goal.returns-in-Err-keep-clause-differs
returns-in-Err-keep-clause-differs g c = λ larger s.
    differs_none g.H.TreeHash.digest larger c.args.tip.now c.in-Err-keep.fault c.in-Err-keep.ensures.fault

pub returns-clause-differs : goal.returns-clause-differs
returns-clause-differs g c =
    err_weaker c.keep-2.result IsNoConflict _ (λ e h larger s. differs_none g.H.TreeHash.digest larger c.args.tip.now e h)
    c.keep-2.ensures.fault
