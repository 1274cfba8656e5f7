use Rattle.std.proofs.Common.{rules, ◌≡◌, ◌+◌, ◌*◌, ◌^◌, ◌<◌, ◌≤◌, ◌-◌, ℕ, List, inr, length, take, refl, subst, sym, ap, ◌∙◌, arith, get_or, []}
use Rattle.std.proofs.lemmas.List.{get_or_default}
use Rattle.std.proofs.lemmas.Result.{err_from_is_err_and}
use Rattle.tlog_tiles.specs.Row.{IsRow}
use Rattle.tlog_tiles.specs.declared.paths.Path.TheVariants.{Tile, Entries}
use Rattle.copy_follow.specs.Standing.{RecordsStands}
use Rattle.copy_follow.specs.Growing.{IsRowBrought}
use Rattle.copy_follow.proofs.Growth.{left_none, left_then, brings_ok, kept_same}
use Rattle.mirror_sources.specs.Recorded.{KeepsRecord}
use Rattle.copy_follow.proofs.Earlier.{early_later, early_result}
use Rattle.copy_places.proofs.Asking.{asks_same, asks_then, asks_weaker}
use Rattle.copy_follow.specs.Suffices.{IsTileHash, IsTileRow}
use Rattle.copy_follow.specs.Taken.{MayTake}
use Rattle.copy_follow.proofs.OnePlace.{honest_between, puts_also, puts_none, puts_then}
use Rattle.copy_follow.proofs.Spared.{child_true, err_weaker, spared, spared_answer, tile_true, tile_under}
use Rattle.copy_follow.proofs.TipTruth.{row_begins}
use Rattle.copy_follow.proofs.NewFulls.{tile_asked}
use Rattle.copy_follow.specs.Asked.{IsNewFull}
use Rattle.copy_follow.proofs.TileRows.{first_child, so_far_first, so_far_known, so_far_more, so_far_left}
use Rattle.copy_follow.proofs.TileRows.{child_beyond, child_fits, child_small, row_fits, row_then, tile_brought, tile_left}
use Rattle.copy_follow.proofs.EmptyTips.{row_after}
use Rattle.copy_places.proofs.AskingOnce.{once_same, once_weaker}
use Rattle.copy_follow.proofs.Between.{bundle_between, child_to, once_child, once_longer, once_tile, tile_between}
use Rattle.copy_places.specs.AskedOnce.{AsksOnce}
use Rattle.copy_follow.specs.Asked.{IsFullBetween}
use Rattle.copy_follow.proofs.Exits.{counted_exit, err_exit}
use Rattle.copy_follow.proofs.Exits.{counted_last, early_exit, no_place}
use Rattle.copy_follow.specs.Conflicts.{ConflictPutsNothing, IsNoConflict}
use Rattle.copy_follow.specs.Faults.{BlamesPlaces, IsOfNoPlace}
use Rattle.copy_follow.specs.Growing.{BringsTile, IsKnown}
use Rattle.std.proofs.Common.{OnOk}
use Rattle.mirror_folders.specs.Flushes.{Secures}
use Rattle.copy_follow.specs.Secured.{IsNewBelow, IsNewInRow}
use Rattle.copy_follow.proofs.Secured.{after_still, ok_weaker, row_first, row_more, tile_secured}
use Rattle.log_reader.specs.Ways.{AreHashesOf, IsShownRow}
use Rattle.copy_follow.specs.Differing.{IsShownHash}
use Rattle.copy_follow.proofs.Differing.{child_shown, differs_none, other_row, under_shown}
use Rattle.copy_follow.proofs.bring.+tiles.Goals as goal

pub bring_row-returns-in_default-clause-brings : goal.bring_row-returns-in_default-clause-brings
bring_row-returns-in_default-clause-brings g t c = λ known is.
    left_none g.H.TreeHash.digest c.args.tip.now.size known (g.D.Shelf.puts c.args.shelf.now)
    (g.D.Shelf.puts c.args.shelf.now) (kept_same (g.D.Shelf.puts c.args.shelf.now))

pub bring_row-bring_tile-requires : goal.bring_row-bring_tile-requires
bring_row-bring_tile-requires g t c κs within =
    let sub : c.args.level ≡ c.args.level - 1 + 1 = let some = c.requires.above in omega arith in
    let lt : c.loop-i.i < length c.args.row.now = omega arith in
    let fits = child_fits c.args.level c.args.index (length c.args.row.now) c.loop-i.i lt c.requires.fits in
    let past = child_beyond c.args.tip.now c.args.level c.args.index c.requires.beyond c.args.row.now
    c.in-Some.first c.loop-i.i c.in-Some.ensures.first c.loop-i.auto.i in (
      search rules,
      (
        search rules,
        (
          search rules,
          (
            search rules,
            (
              omega arith,
              (
                subst (λ l. (256 * c.args.index + c.loop-i.i + 1) * 256 ^ l ≤ 9223372036854775808) sub fits,
                subst (λ l. c.args.tip.now.size < (256 * c.args.index + c.loop-i.i + 1) * 256 ^ l) sub past,
              ),
            ),
          ),
        ),
      ),
    )

pub bring_row-overflow_add-index : goal.bring_row-overflow_add-index
bring_row-overflow_add-index g t c =
    let lt : c.loop-i.i < length c.args.row.now = omega arith in
    let small = child_small c.args.level c.args.index (length c.args.row.now) c.loop-i.i lt c.requires.fits in
    search rules

pub bring_row-returns-in_err-bring_tile-clause-brings : goal.bring_row-returns-in_err-bring_tile-clause-brings
bring_row-returns-in_err-bring_tile-clause-brings g t c = λ known is.
    let p = err_from_is_err_and c.from_residual.result c.from_residual.ensures.1 in
    let digest = g.H.TreeHash.digest in
    let tip = c.args.tip.now in
    let x = g.D.Shelf.puts c.args.shelf.now in
    let y = g.D.Shelf.puts c.loop-i.shelf in
    let z = g.D.Shelf.puts c.bring_tile.new.shelf in
    let row = c.args.row.now in
    let s = c.loop-i.invariant.brought known is in
    rw p.1 (so_far_left tip c.args.level c.args.index c.requires.beyond c.requires.above c.requires.level digest row known
    x y z c.loop-i.i s
    (c.in_err-bring_tile.ensures.brings s.next
    (so_far_known tip c.args.level c.args.index c.requires.beyond c.requires.above c.requires.level digest row known x y
    c.loop-i.i (c.args.index * 256 ^ (c.args.level + 1)) is s)))

pub bring_row-loop-i-init : goal.bring_row-loop-i-init
bring_row-loop-i-init g t c = record {
  counted = refl;
  asks = asks_same g.S.Source.may_answer g.S.Source.failed g.S.Source.asked (IsNewFull c.args.tip.now.size) c.args.places.now;
  once = once_same g.S.Source.asked (λ k. IsFullBetween c.args.level (c.args.index * 256 ^ (c.args.level + 1)) ((256 * c.args.index + c.in-Some.first) * 256 ^ c.args.level)) c.args.places.now;
  taken = puts_none g.S.Source.may_answer g.S.Source.failed g.S.Source.asked c.args.places.now (g.D.Shelf.puts c.args.shelf.now)
      (g.D.Shelf.puts c.args.shelf.now) (kept_same (g.D.Shelf.puts c.args.shelf.now));
  early = λ same. kept_same (g.D.Shelf.puts c.args.shelf.now);
  secured = row_first c.args.tip.now c.args.level c.args.index c.requires.beyond c.requires.above c.requires.level
      c.args.row.now c.in-Some.first c.in-Some.ensures.first (g.D.Shelf.flushes c.args.shelf.now);
  brought = λ known is.
      so_far_first c.args.tip.now c.args.level c.args.index c.requires.beyond c.requires.above c.requires.level
      g.H.TreeHash.digest c.args.row.now known (g.D.Shelf.puts c.args.shelf.now) c.in-Some.first is c.in-Some.ensures.first;
}

pub bring_row-loop-i-preserved : goal.bring_row-loop-i-preserved
bring_row-loop-i-preserved g t c = record {
  counted = c.in_ok-bring_tile.ensures.counted ∙ c.loop-i.invariant.counted;
  asks = asks_then g.S.Source.may_answer g.S.Source.failed g.S.Source.asked (IsNewFull c.args.tip.now.size) c.args.places.now c.loop-i.places
      c.bring_tile.new.places c.loop-i.invariant.asks c.bring_tile.ensures.asks;
  once = once_child g.S.Source.asked c.args.level c.args.index c.loop-i.i c.requires.above c.args.places.now c.loop-i.places
      c.bring_tile.new.places c.loop-i.invariant.once c.bring_tile.ensures.once;
  taken = puts_then g.S.Source.may_answer g.S.Source.failed g.S.Source.asked (IsNewFull c.args.tip.now.size) c.args.places.now
      c.loop-i.places c.loop-i.invariant.asks (g.D.Shelf.puts c.args.shelf.now) (g.D.Shelf.puts c.loop-i.shelf)
      (g.D.Shelf.puts c.bring_tile.new.shelf) c.loop-i.invariant.taken c.bring_tile.ensures.taken;
  secured = row_more c.args.tip.now.size c.args.level c.args.index c.loop-i.i (g.D.Shelf.flushes c.args.shelf.now)
      (g.D.Shelf.flushes c.loop-i.shelf) (g.D.Shelf.flushes c.bring_tile.new.shelf) c.loop-i.invariant.secured
      c.in_ok-bring_tile.ensures.secured;
  early = λ same. absurd (let le = c.loop-i.auto.i in omega arith);
  brought = λ known is.
      let digest = g.H.TreeHash.digest in
      let tip = c.args.tip.now in
      let x = g.D.Shelf.puts c.args.shelf.now in
      let y = g.D.Shelf.puts c.loop-i.shelf in
      let z = g.D.Shelf.puts c.bring_tile.new.shelf in
      let row = c.args.row.now in
      let s = c.loop-i.invariant.brought known is in
      let past = child_beyond tip c.args.level c.args.index c.requires.beyond row
      c.in-Some.first c.loop-i.i c.in-Some.ensures.first c.loop-i.auto.i in
      let lt : c.loop-i.i < length row = omega arith in
      let h = get_or row c.loop-i.i [] in
      so_far_more tip c.args.level c.args.index c.requires.beyond c.requires.above c.requires.level digest row known x y z
      c.loop-i.i h lt (get_or_default row c.loop-i.i [] h lt) past s
      (c.in_ok-bring_tile.ensures.brings s.next
      (so_far_known tip c.args.level c.args.index c.requires.beyond c.requires.above c.requires.level digest row known x y
      c.loop-i.i (c.args.index * 256 ^ (c.args.level + 1)) is s));
}

pub bring_row-returns-clause-brings : goal.bring_row-returns-clause-brings
bring_row-returns-clause-brings g t c = λ known is.
    let tip = c.args.tip.now in
    let end : c.loop-i.i ≡ length c.args.row.now = omega (arith, c.loop-i.auto.i-end c.in-Some.ensures.within) in
    subst (λ n. IsRowBrought g.H.TreeHash.digest tip c.args.level c.args.index c.args.row.now known
    (g.D.Shelf.puts c.args.shelf.now) (g.D.Shelf.puts c.loop-i.shelf) n) end (c.loop-i.invariant.brought known is)

pub bring_tile-returns-in_err-found-clause-brings : goal.bring_tile-returns-in_err-found-clause-brings
bring_tile-returns-in_err-found-clause-brings g t c = λ known is.
    let p = err_from_is_err_and c.from_residual.result c.from_residual.ensures.1 in
    rw p.1 (left_none g.H.TreeHash.digest c.args.tip.now.size known (g.D.Shelf.puts c.args.shelf.now)
    (g.D.Shelf.puts c.find.new.shelf) c.find.ensures.same)

pub bring_tile-bring_row-requires : goal.bring_tile-bring_row-requires
bring_tile-bring_row-requires g t c κs within =
    let long : length c.deref.result.now ≡ 256 = ap length c.deref.ensures.value ∙ c.in_ok-found.ensures.found.is_row.count in
    let fits = row_fits c.args.level c.args.index (length c.deref.result.now) long c.requires.fits in (
      search rules,
      (
        search rules,
        (
          search rules,
          (search rules, (omega arith, (omega arith, (omega arith, (fits, c.requires.beyond))))),
        ),
      ),
    )

pub bring_tile-returns-in_err-bring_row-clause-brings : goal.bring_tile-returns-in_err-bring_row-clause-brings
bring_tile-returns-in_err-bring_row-clause-brings g t c = λ known is.
    let p = err_from_is_err_and c.from_residual-in_err-bring_row.result c.from_residual-in_err-bring_row.ensures.1 in
    rw p.1 (left_then g.H.TreeHash.digest c.args.tip.now.size known (g.D.Shelf.puts c.args.shelf.now)
    (g.D.Shelf.puts c.find.new.shelf) (g.D.Shelf.puts c.bring_row.new.shelf) c.find.ensures.same
    (c.in_err-bring_row.ensures.brings known is))

pub bring_tile-returns-clause-brings : goal.bring_tile-returns-clause-brings
bring_tile-returns-clause-brings g t c = λ known is.
    let digest = g.H.TreeHash.digest in
    let tip = c.args.tip.now in
    let level = c.args.level in
    let index = c.args.index in
    let x = g.D.Shelf.puts c.args.shelf.now in
    let w = g.D.Shelf.puts c.find.new.shelf in
    let y = g.D.Shelf.puts c.bring_row.new.shelf in
    let z = g.D.Shelf.puts c.keep.new.shelf in
    let row = c.in_ok-found.found.row.items in
    let found = c.in_ok-found.ensures.found in
    let some : 1 ≤ level = omega arith in
    let upto : level ≤ 7 = omega arith in
    let long : length row ≡ 256 = found.is_row.count in
    let brought = subst (λ r. IsRowBrought digest tip level index r known w y (length r)) c.deref.ensures.value
    (c.in_ok-bring_row.ensures.brings known is) in
    let s = row_then digest tip level index row known x w y c.find.ensures.same
    (subst (λ n. IsRowBrought digest tip level index row known w y n) long brought) in
    let is_row = subst (λ bytes. IsRow 256 bytes row) (sym c.deref-2.ensures.value) found.is_row in
    brings_ok digest tip level index c.args.hash.now known x z c.keep.result
    (RecordsStands y z (Tile level index 256) c.deref-2.result.now) c.keep.ensures.stands
    (λ there. tile_brought tip level index c.requires.beyond some upto digest row known x y long s z c.deref-2.result.now
    is_row c.keep.ensures.puts c.args.hash.now found.folds there)
    (tile_left tip level index c.requires.beyond some upto digest row known x y long s z c.deref-2.result.now
    is_row c.keep.ensures.puts)

pub bring_row-returns-in_err-bring_tile-clause-early : goal.bring_row-returns-in_err-bring_tile-clause-early
bring_row-returns-in_err-bring_tile-clause-early g t c =
    let p = err_from_is_err_and c.from_residual.result c.from_residual.ensures.1 in
    let m = c.args.tip.now.size in
    let start = c.args.index * 256 ^ (c.args.level + 1) in
    let later = (256 * c.args.index + c.loop-i.i) * 256 ^ (c.args.level - 1 + 1) in
    let x = g.D.Shelf.puts c.args.shelf.now in
    let y = g.D.Shelf.puts c.loop-i.shelf in
    let z = g.D.Shelf.puts c.bring_tile.new.shelf in
    let before : later ≤ m → (start ≤ m) × KeepsRecord x y = λ within.
    let h = first_child c.args.tip.now c.args.level c.args.index c.requires.beyond c.args.row.now c.in-Some.first
    c.loop-i.i c.in-Some.ensures.first c.loop-i.auto.i c.requires.above within in
    (h.1, c.loop-i.invariant.early h.0) in
    rw (p.1, p.2) (early_later (Unit {0}) (Unit {0}) start later m x y z c.in_err-bring_tile.field-0.0 before
    c.in_err-bring_tile.ensures.early)

pub bring_row-returns-clause-none : goal.bring_row-returns-clause-none
bring_row-returns-clause-none g t c = λ within.
    let m = c.args.tip.now.size in
    let end : length c.args.row.now ≡ c.loop-i.i = let most = c.loop-i.auto.i-end c.in-Some.ensures.within in omega arith in
    let some = c.requires.above in
    let up : c.args.level ≡ c.args.level - 1 + 1 = omega arith in
    let all : (256 * c.args.index + c.loop-i.i) * 256 ^ (c.args.level - 1 + 1) ≤ m =
    subst (λ l. (256 * c.args.index + c.loop-i.i) * 256 ^ l ≤ m) up
    (subst (λ n. (256 * c.args.index + n) * 256 ^ c.args.level ≤ m) end within) in
    let h = first_child c.args.tip.now c.args.level c.args.index c.requires.beyond c.args.row.now c.in-Some.first
    c.loop-i.i c.in-Some.ensures.first c.loop-i.auto.i c.requires.above all in
    c.loop-i.invariant.early h.0

pub bring_row-returns-in_default-clause-asks : goal.bring_row-returns-in_default-clause-asks
bring_row-returns-in_default-clause-asks g t c = asks_same g.S.Source.may_answer g.S.Source.failed g.S.Source.asked (IsNewFull c.args.tip.now.size) c.args.places.now

pub bring_row-returns-in_err-bring_tile-clause-asks : goal.bring_row-returns-in_err-bring_tile-clause-asks
bring_row-returns-in_err-bring_tile-clause-asks g t c =
    asks_then g.S.Source.may_answer g.S.Source.failed g.S.Source.asked (IsNewFull c.args.tip.now.size) c.args.places.now
    c.loop-i.places c.bring_tile.new.places c.loop-i.invariant.asks c.bring_tile.ensures.asks

pub bring_row-returns-clause-asks : goal.bring_row-returns-clause-asks
bring_row-returns-clause-asks g t c = c.loop-i.invariant.asks

pub bring_tile-returns-in_err-found-clause-asks : goal.bring_tile-returns-in_err-found-clause-asks
bring_tile-returns-in_err-found-clause-asks g t c =
    let some : 1 ≤ c.args.level = omega arith in
    asks_weaker g.S.Source.may_answer g.S.Source.failed g.S.Source.asked (λ p. p ≡ Tile c.args.level c.args.index 256)
    (IsNewFull c.args.tip.now.size) (tile_asked c.args.tip.now.size c.args.level c.args.index some c.requires.beyond)
    c.args.places.now c.find.new.places c.find.ensures.asks

pub bring_tile-returns-in_err-bring_row-clause-asks : goal.bring_tile-returns-in_err-bring_row-clause-asks
bring_tile-returns-in_err-bring_row-clause-asks g t c =
    let some : 1 ≤ c.args.level = omega arith in
    asks_then g.S.Source.may_answer g.S.Source.failed g.S.Source.asked (IsNewFull c.args.tip.now.size) c.args.places.now
    c.find.new.places c.bring_row.new.places
    (asks_weaker g.S.Source.may_answer g.S.Source.failed g.S.Source.asked (λ p. p ≡ Tile c.args.level c.args.index 256)
    (IsNewFull c.args.tip.now.size) (tile_asked c.args.tip.now.size c.args.level c.args.index some c.requires.beyond)
    c.args.places.now c.find.new.places c.find.ensures.asks)
    c.bring_row.ensures.asks

pub bring_tile-returns-clause-asks : goal.bring_tile-returns-clause-asks
bring_tile-returns-clause-asks g t c =
    let some : 1 ≤ c.args.level = omega arith in
    asks_then g.S.Source.may_answer g.S.Source.failed g.S.Source.asked (IsNewFull c.args.tip.now.size) c.args.places.now
    c.find.new.places c.bring_row.new.places
    (asks_weaker g.S.Source.may_answer g.S.Source.failed g.S.Source.asked (λ p. p ≡ Tile c.args.level c.args.index 256)
    (IsNewFull c.args.tip.now.size) (tile_asked c.args.tip.now.size c.args.level c.args.index some c.requires.beyond)
    c.args.places.now c.find.new.places c.find.ensures.asks)
    c.bring_row.ensures.asks

-- ---- each put was taken

pub bring_row-returns-in_default-clause-taken : goal.bring_row-returns-in_default-clause-taken
bring_row-returns-in_default-clause-taken g t c =
    let x = g.D.Shelf.puts c.args.shelf.now in
    puts_none g.S.Source.may_answer g.S.Source.failed g.S.Source.asked c.args.places.now x x (kept_same x)

pub bring_row-returns-in_err-bring_tile-clause-taken : goal.bring_row-returns-in_err-bring_tile-clause-taken
bring_row-returns-in_err-bring_tile-clause-taken g t c =
    puts_then g.S.Source.may_answer g.S.Source.failed g.S.Source.asked (IsNewFull c.args.tip.now.size) c.args.places.now
    c.loop-i.places c.loop-i.invariant.asks (g.D.Shelf.puts c.args.shelf.now) (g.D.Shelf.puts c.loop-i.shelf)
    (g.D.Shelf.puts c.bring_tile.new.shelf) c.loop-i.invariant.taken c.bring_tile.ensures.taken

pub bring_row-returns-clause-taken : goal.bring_row-returns-clause-taken
bring_row-returns-clause-taken g t c = c.loop-i.invariant.taken

pub bring_tile-returns-in_err-found-clause-taken : goal.bring_tile-returns-in_err-found-clause-taken
bring_tile-returns-in_err-found-clause-taken g t c =
    puts_none g.S.Source.may_answer g.S.Source.failed g.S.Source.asked c.args.places.now (g.D.Shelf.puts c.args.shelf.now)
    (g.D.Shelf.puts c.find.new.shelf) c.find.ensures.same

pub bring_tile-returns-in_err-bring_row-clause-taken : goal.bring_tile-returns-in_err-bring_row-clause-taken
bring_tile-returns-in_err-bring_row-clause-taken g t c =
    let may = g.S.Source.may_answer in
    let failed = g.S.Source.failed in
    let asked = g.S.Source.asked in
    let x = g.D.Shelf.puts c.args.shelf.now in
    let y = g.D.Shelf.puts c.find.new.shelf in
    puts_then may failed asked (λ p. p ≡ Tile c.args.level c.args.index 256) c.args.places.now c.find.new.places c.find.ensures.asks
    x y (g.D.Shelf.puts c.bring_row.new.shelf) (puts_none may failed asked c.args.places.now x y c.find.ensures.same)
    c.bring_row.ensures.taken

pub bring_tile-returns-clause-taken : goal.bring_tile-returns-clause-taken
bring_tile-returns-clause-taken g t c =
    let may = g.S.Source.may_answer in
    let failed = g.S.Source.failed in
    let asked = g.S.Source.asked in
    let so = IsNewFull c.args.tip.now.size in
    let path = Tile c.args.level c.args.index 256 in
    let places = c.args.places.now in
    let x = g.D.Shelf.puts c.args.shelf.now in
    let w = g.D.Shelf.puts c.find.new.shelf in
    let y = g.D.Shelf.puts c.bring_row.new.shelf in
    let z = g.D.Shelf.puts c.keep.new.shelf in
    let below = puts_then may failed asked (λ p. p ≡ path) places c.find.new.places c.find.ensures.asks x w y
    (puts_none may failed asked places x w c.find.ensures.same) c.bring_row.ensures.taken in
    puts_also may failed asked places x y z path c.deref-2.result.now below c.keep.ensures.puts
    (inr (subst (λ (b : List ℕ). MayTake may places x path b) (sym c.deref-2.ensures.value) c.in_ok-found.ensures.taken))

-- ---- one honest place suffices

pub bring_row-returns-in_default-clause-honest : goal.bring_row-returns-in_default-clause-honest
bring_row-returns-in_default-clause-honest g t c = λ entries size h tip is.
    row_begins g.H.TreeHash.digest c.args.tip.now (take size entries) tip c.args.level c.args.index c.args.row.now
    c.requires.level is (rw c.in_default.is at c.first_new.ensures.none) ⊥ (rw c.in_default.is at c.first_new.ensures.differs)

pub bring_row-returns-in_err-bring_tile-clause-honest : goal.bring_row-returns-in_err-bring_tile-clause-honest
bring_row-returns-in_err-bring_tile-clause-honest g t c =
    let p = err_from_is_err_and c.from_residual.result c.from_residual.ensures.1 in
    let may = g.S.Source.may_answer in
    let failed = g.S.Source.failed in
    let asked = g.S.Source.asked in
    let so = IsNewFull c.args.tip.now.size in
    let z = c.bring_tile.new.places in
    rw (p.1, p.2) (λ entries size h tip is.
    c.in_err-bring_tile.ensures.honest entries size
    (honest_between may failed asked g.H.TreeHash.digest entries size so so so c.args.places.now c.loop-i.places z z
    (g.D.Shelf.puts c.args.shelf.now) (g.D.Shelf.puts c.loop-i.shelf) c.loop-i.invariant.asks c.bring_tile.ensures.asks
    (asks_same may failed asked so z) c.loop-i.invariant.taken h)
    tip (child_true g.H.TreeHash.digest g.met.H.TreeHash.digest_length (take size entries) c.args.level c.args.index c.loop-i.i
    c.args.row.now c.requires.above (omega arith) is))

pub bring_tile-returns-in_err-found-clause-honest : goal.bring_tile-returns-in_err-found-clause-honest
bring_tile-returns-in_err-found-clause-honest g t c =
    let p = err_from_is_err_and c.from_residual.result c.from_residual.ensures.1 in
    rw (p.1, p.2) (λ entries size h tip is.
    spared c.in_err-found.field-0.0 (c.in_err-found.ensures.suffices entries h.short
    (tile_under g.H.TreeHash.digest entries size h.upto c.args.level c.args.index c.args.hash.now (omega arith) is) h.place)
    c.in_err-found.ensures.fault)

pub bring_tile-returns-in_err-bring_row-clause-honest : goal.bring_tile-returns-in_err-bring_row-clause-honest
bring_tile-returns-in_err-bring_row-clause-honest g t c =
    let p = err_from_is_err_and c.from_residual-in_err-bring_row.result c.from_residual-in_err-bring_row.ensures.1 in
    let digest = g.H.TreeHash.digest in
    let may = g.S.Source.may_answer in
    let failed = g.S.Source.failed in
    let asked = g.S.Source.asked in
    let so = IsNewFull c.args.tip.now.size in
    let path = Tile c.args.level c.args.index 256 in
    let x = g.D.Shelf.puts c.args.shelf.now in
    let y = g.D.Shelf.puts c.find.new.shelf in
    let z = c.bring_row.new.places in
    let v = c.in_ok-found.ensures.found in
    rw (p.1, p.2) (λ entries size h tip is.
    let log = take size entries in
    let clean = h.clear.tile c.args.level c.args.index (omega arith) c.in_ok-found.found.bytes.items c.in_ok-found.found.row.items
    c.in_ok-found.ensures.taken v.is_row in
    let there = tile_true digest g.met.H.TreeHash.digest_length log c.args.level c.args.index c.args.hash.now
    c.in_ok-found.found.bytes.items c.in_ok-found.found.row.items v is clean in
    c.in_err-bring_row.ensures.honest entries size
    (honest_between may failed asked digest entries size (λ q. q ≡ path) so so c.args.places.now c.find.new.places z z
    x y c.find.ensures.asks c.bring_row.ensures.asks (asks_same may failed asked so z)
    (puts_none may failed asked c.args.places.now x y c.find.ensures.same) h)
    tip (subst (λ (r : List (List ℕ)). IsTileRow digest log c.args.level c.args.index r) (sym c.deref.ensures.value) there))

pub bring_tile-returns-clause-honest : goal.bring_tile-returns-clause-honest
bring_tile-returns-clause-honest g t c =
    spared_answer c.keep.result _ (λ e so entries size h tip is. so) c.keep.ensures.places c.keep.ensures.fault

-- ---- no conflict with an empty copy

pub bring_row-returns-in_default-clause-empty : goal.bring_row-returns-in_default-clause-empty
bring_row-returns-in_default-clause-empty g t c = λ k.
    row_after g.H.TreeHash.digest c.args.tip.now k c.args.level c.requires.level c.args.row.now ⊥
    (rw c.in_default.is at c.first_new.ensures.differs)

pub bring_tile-returns-then-level-eq0-clause-honest : goal.bring_tile-returns-then-level-eq0-clause-honest
bring_tile-returns-then-level-eq0-clause-honest g t c =
    let zero : c.args.level ≡ 0 = omega arith in
    err_weaker c.bring_bundle.result _ _ (λ e so entries size h tip is.
    so entries size h tip
    (subst (λ l. IsTileHash g.H.TreeHash.digest (take size entries) l c.args.index c.args.hash.now) zero is))
    c.bring_bundle.ensures.honest

-- ---- no place gets two requests for one path

pub bring_row-returns-in_default-clause-once : goal.bring_row-returns-in_default-clause-once
bring_row-returns-in_default-clause-once g t c =
    once_same g.S.Source.asked (λ k. IsFullBetween c.args.level (c.args.index * 256 ^ (c.args.level + 1)) ((256 * c.args.index + length c.args.row.now) * 256 ^ c.args.level)) c.args.places.now

pub bring_row-returns-in_err-bring_tile-clause-once : goal.bring_row-returns-in_err-bring_tile-clause-once
bring_row-returns-in_err-bring_tile-clause-once g t c =
    let lt : c.loop-i.i + 1 ≤ length c.args.row.now = omega arith in
    once_longer g.S.Source.asked c.args.level (c.args.index * 256 ^ (c.args.level + 1)) ((256 * c.args.index + (c.loop-i.i + 1)) * 256 ^ c.args.level)
    ((256 * c.args.index + length c.args.row.now) * 256 ^ c.args.level) (child_to c.args.level c.args.index (length c.args.row.now) (c.loop-i.i + 1) lt)
    c.args.places.now c.bring_tile.new.places (once_child g.S.Source.asked c.args.level c.args.index c.loop-i.i c.requires.above c.args.places.now c.loop-i.places
    c.bring_tile.new.places c.loop-i.invariant.once c.bring_tile.ensures.once)

pub bring_row-returns-clause-once : goal.bring_row-returns-clause-once
bring_row-returns-clause-once g t c =
    let end : c.loop-i.i ≡ length c.args.row.now = omega (arith, c.loop-i.auto.i-end c.in-Some.ensures.within) in
    subst (λ n. AsksOnce g.S.Source.asked (λ k. IsFullBetween c.args.level (c.args.index * 256 ^ (c.args.level + 1)) ((256 * c.args.index + n) * 256 ^ c.args.level)) c.args.places.now c.loop-i.places) end
    c.loop-i.invariant.once

pub bring_tile-returns-in_err-found-clause-once : goal.bring_tile-returns-in_err-found-clause-once
bring_tile-returns-in_err-found-clause-once g t c =
    let some : 1 ≤ c.args.level = omega arith in
    let upto : c.args.level ≤ 7 = omega arith in
    once_weaker g.S.Source.asked (λ k p. p ≡ Tile c.args.level c.args.index 256) (λ k. IsFullBetween (c.args.level + 1) (c.args.index * 256 ^ (c.args.level + 1)) ((c.args.index + 1) * 256 ^ (c.args.level + 1)))
    (λ k path is. tile_between c.args.level c.args.index some upto path is) c.args.places.now c.find.new.places c.find.ensures.once

pub bring_tile-returns-in_err-bring_row-clause-once : goal.bring_tile-returns-in_err-bring_row-clause-once
bring_tile-returns-in_err-bring_row-clause-once g t c =
    let some : 1 ≤ c.args.level = omega arith in
    let upto : c.args.level ≤ 7 = omega arith in
    let long : length c.deref.result.now ≡ 256 = ap length c.deref.ensures.value ∙ c.in_ok-found.ensures.found.is_row.count in
    once_tile g.S.Source.asked c.args.level c.args.index (length c.deref.result.now) some upto long c.args.places.now c.find.new.places
    c.bring_row.new.places c.find.ensures.once c.bring_row.ensures.once

pub bring_tile-returns-clause-once : goal.bring_tile-returns-clause-once
bring_tile-returns-clause-once g t c =
    let some : 1 ≤ c.args.level = omega arith in
    let upto : c.args.level ≤ 7 = omega arith in
    let long : length c.deref.result.now ≡ 256 = ap length c.deref.ensures.value ∙ c.in_ok-found.ensures.found.is_row.count in
    once_tile g.S.Source.asked c.args.level c.args.index (length c.deref.result.now) some upto long c.args.places.now c.find.new.places
    c.bring_row.new.places c.find.ensures.once c.bring_row.ensures.once

pub bring_tile-returns-then-level-eq0-clause-once : goal.bring_tile-returns-then-level-eq0-clause-once
bring_tile-returns-then-level-eq0-clause-once g t c =
    let zero : c.args.level ≡ 0 = omega arith in
    once_weaker g.S.Source.asked (λ k p. p ≡ Entries c.args.index 256) (λ k. IsFullBetween (c.args.level + 1) (c.args.index * 256 ^ (c.args.level + 1)) ((c.args.index + 1) * 256 ^ (c.args.level + 1)))
    (λ k path is. bundle_between c.args.level c.args.index zero path is) c.args.places.now c.bring_bundle.new.places
    c.bring_bundle.ensures.once

-- ---- what a fault says

pub bring_row-returns-in_err-bring_tile-clause-counted : goal.bring_row-returns-in_err-bring_tile-clause-counted
bring_row-returns-in_err-bring_tile-clause-counted g t c =
    let failed = g.D.Shelf.failed in
    counted_exit c.from_residual.result c.in_err-bring_tile.field-0.0 c.from_residual.ensures (failed c.args.shelf.now)
    (failed c.loop-i.shelf) (failed c.bring_tile.new.shelf) c.loop-i.invariant.counted c.in_err-bring_tile.ensures.counted

pub bring_row-returns-in_err-bring_tile-clause-blames : goal.bring_row-returns-in_err-bring_tile-clause-blames
bring_row-returns-in_err-bring_tile-clause-blames g t c =
    err_exit _ c.from_residual.result c.in_err-bring_tile.field-0.0 c.from_residual.ensures c.in_err-bring_tile.ensures.blames

pub bring_row-returns-in_err-bring_tile-clause-empty : goal.bring_row-returns-in_err-bring_tile-clause-empty
bring_row-returns-in_err-bring_tile-clause-empty g t c =
    err_exit _ c.from_residual.result c.in_err-bring_tile.field-0.0 c.from_residual.ensures c.in_err-bring_tile.ensures.empty

pub bring_tile-returns-in_err-found-clause-counted : goal.bring_tile-returns-in_err-found-clause-counted
bring_tile-returns-in_err-found-clause-counted g t c =
    let failed = g.D.Shelf.failed in
    counted_exit c.from_residual.result c.in_err-found.field-0.0 c.from_residual.ensures (failed c.args.shelf.now)
    (failed c.args.shelf.now) (failed c.find.new.shelf) refl c.in_err-found.ensures.counted

pub bring_tile-returns-in_err-found-clause-blames : goal.bring_tile-returns-in_err-found-clause-blames
bring_tile-returns-in_err-found-clause-blames g t c =
    err_exit _ c.from_residual.result c.in_err-found.field-0.0 c.from_residual.ensures c.in_err-found.ensures.blames

pub bring_tile-returns-in_err-found-clause-empty : goal.bring_tile-returns-in_err-found-clause-empty
bring_tile-returns-in_err-found-clause-empty g t c =
    err_exit _ c.from_residual.result c.in_err-found.field-0.0 c.from_residual.ensures (λ is. c.in_err-found.ensures.fault)

pub bring_tile-returns-in_err-found-clause-early : goal.bring_tile-returns-in_err-found-clause-early
bring_tile-returns-in_err-found-clause-early g t c =
    early_result (c.args.index * 256 ^ (c.args.level + 1)) c.args.tip.now.size (g.D.Shelf.puts c.args.shelf.now)
    (g.D.Shelf.puts c.find.new.shelf) c.from_residual.result
    (err_exit _ c.from_residual.result c.in_err-found.field-0.0 c.from_residual.ensures c.in_err-found.ensures.fault)

pub bring_tile-returns-in_err-bring_row-clause-counted : goal.bring_tile-returns-in_err-bring_row-clause-counted
bring_tile-returns-in_err-bring_row-clause-counted g t c =
    let failed = g.D.Shelf.failed in
    counted_exit c.from_residual-in_err-bring_row.result c.in_err-bring_row.field-0.0 c.from_residual-in_err-bring_row.ensures
    (failed c.args.shelf.now) (failed c.find.new.shelf) (failed c.bring_row.new.shelf) c.in_ok-found.ensures.counted
    c.in_err-bring_row.ensures.counted

pub bring_tile-returns-in_err-bring_row-clause-blames : goal.bring_tile-returns-in_err-bring_row-clause-blames
bring_tile-returns-in_err-bring_row-clause-blames g t c =
    err_exit _ c.from_residual-in_err-bring_row.result c.in_err-bring_row.field-0.0 c.from_residual-in_err-bring_row.ensures
    c.in_err-bring_row.ensures.blames

pub bring_tile-returns-in_err-bring_row-clause-empty : goal.bring_tile-returns-in_err-bring_row-clause-empty
bring_tile-returns-in_err-bring_row-clause-empty g t c =
    err_exit _ c.from_residual-in_err-bring_row.result c.in_err-bring_row.field-0.0 c.from_residual-in_err-bring_row.ensures
    c.in_err-bring_row.ensures.empty

pub bring_tile-returns-then-level-eq0-clause-counted : goal.bring_tile-returns-then-level-eq0-clause-counted
bring_tile-returns-then-level-eq0-clause-counted g t c =
    c.bring_bundle.ensures.counted

pub bring_tile-returns-then-level-eq0-clause-asks : goal.bring_tile-returns-then-level-eq0-clause-asks
bring_tile-returns-then-level-eq0-clause-asks g t c =
    c.bring_bundle.ensures.asks

pub bring_tile-returns-then-level-eq0-clause-blames : goal.bring_tile-returns-then-level-eq0-clause-blames
bring_tile-returns-then-level-eq0-clause-blames g t c =
    c.bring_bundle.ensures.blames

pub bring_tile-returns-then-level-eq0-clause-taken : goal.bring_tile-returns-then-level-eq0-clause-taken
bring_tile-returns-then-level-eq0-clause-taken g t c =
    c.bring_bundle.ensures.taken

pub bring_tile-returns-then-level-eq0-clause-empty : goal.bring_tile-returns-then-level-eq0-clause-empty
bring_tile-returns-then-level-eq0-clause-empty g t c =
    c.bring_bundle.ensures.empty

pub bring_tile-returns-then-level-eq0-clause-early : goal.bring_tile-returns-then-level-eq0-clause-early
bring_tile-returns-then-level-eq0-clause-early g t c =
    let zero : c.args.level ≡ 0 = omega arith in
    let start : c.args.index * 256 ≡ c.args.index * 256 ^ (c.args.level + 1) =
    ap (λ l. c.args.index * 256 ^ (l + 1)) (sym zero) in
    let x = g.D.Shelf.puts c.args.shelf.now in
    let y = g.D.Shelf.puts c.bring_bundle.new.shelf in
    subst (λ n. ConflictPutsNothing n c.args.tip.now.size x y c.bring_bundle.result) start c.bring_bundle.ensures.early

pub bring_tile-returns-then-level-eq0-clause-brings : goal.bring_tile-returns-then-level-eq0-clause-brings
bring_tile-returns-then-level-eq0-clause-brings g t c =
    λ known is.
    let zero : c.args.level ≡ 0 = omega arith in
    let start : c.args.index * 256 ≡ c.args.index * 256 ^ (c.args.level + 1) =
    ap (λ l. c.args.index * 256 ^ (l + 1)) (sym zero) in
    let x = g.D.Shelf.puts c.args.shelf.now in
    let y = g.D.Shelf.puts c.bring_bundle.new.shelf in
    subst (λ l. BringsTile g.H.TreeHash.digest c.args.tip.now l c.args.index c.args.hash.now known x y c.bring_bundle.result) (sym zero)
    (c.bring_bundle.ensures.brings known (subst (λ n. IsKnown g.H.TreeHash.digest c.args.tip.now n known) (sym start) is))

pub bring_tile-returns-clause-counted : goal.bring_tile-returns-clause-counted
bring_tile-returns-clause-counted g t c =
    counted_last c.keep.result (g.D.Shelf.failed c.args.shelf.now) (g.D.Shelf.failed c.bring_row.new.shelf) (g.D.Shelf.failed c.keep.new.shelf)
    (c.in_ok-bring_row.ensures.counted ∙ c.in_ok-found.ensures.counted) c.keep.ensures.counted

pub bring_tile-returns-clause-blames : goal.bring_tile-returns-clause-blames
bring_tile-returns-clause-blames g t c =
    err_weaker c.keep.result IsOfNoPlace (BlamesPlaces c.bring_row.new.places) (no_place c.bring_row.new.places)
    c.keep.ensures.places

pub bring_tile-returns-clause-early : goal.bring_tile-returns-clause-early
bring_tile-returns-clause-early g t c =
    early_result (c.args.index * 256 ^ (c.args.level + 1)) c.args.tip.now.size (g.D.Shelf.puts c.args.shelf.now)
    (g.D.Shelf.puts c.keep.new.shelf) c.keep.result c.keep.ensures.fault

pub bring_tile-returns-clause-empty : goal.bring_tile-returns-clause-empty
bring_tile-returns-clause-empty g t c =
    err_weaker c.keep.result IsNoConflict _ (λ e h is. h) c.keep.ensures.fault

pub bring_tile-returns-in_err-bring_row-clause-early : goal.bring_tile-returns-in_err-bring_row-clause-early
bring_tile-returns-in_err-bring_row-clause-early g t c =
    let start = c.args.index * 256 ^ (c.args.level + 1) in
    let m = c.args.tip.now.size in
    let x = g.D.Shelf.puts c.args.shelf.now in
    let w = g.D.Shelf.puts c.find.new.shelf in
    let y = g.D.Shelf.puts c.bring_row.new.shelf in
    early_exit c.from_residual-in_err-bring_row.result c.in_err-bring_row.field-0.0 c.from_residual-in_err-bring_row.ensures start m x y
    (early_later (Unit {0}) (Unit {0}) start start m x w y c.in_err-bring_row.field-0.0 (λ h. (h, c.find.ensures.same)) c.in_err-bring_row.ensures.early)

-- ---- the files to flush

pub bring_row-returns-clause-secured : goal.bring_row-returns-clause-secured
bring_row-returns-clause-secured g t c =
    let end : c.loop-i.i ≡ length c.args.row.now = omega (arith, c.loop-i.auto.i-end c.in-Some.ensures.within) in
    subst (λ n. Secures (IsNewInRow c.args.tip.now.size c.args.level c.args.index n) (g.D.Shelf.flushes c.args.shelf.now)
    (g.D.Shelf.flushes c.loop-i.shelf)) end c.loop-i.invariant.secured

pub bring_tile-returns-then-level-eq0-clause-secured : goal.bring_tile-returns-then-level-eq0-clause-secured
bring_tile-returns-then-level-eq0-clause-secured g t c =
    let zero : c.args.level ≡ 0 = omega arith in
    subst (λ l. OnOk c.bring_bundle.result (Secures (IsNewBelow c.args.tip.now.size l c.args.index)
    (g.D.Shelf.flushes c.args.shelf.now) (g.D.Shelf.flushes c.bring_bundle.new.shelf))) (sym zero) c.bring_bundle.ensures.secured

pub bring_tile-returns-clause-secured : goal.bring_tile-returns-clause-secured
bring_tile-returns-clause-secured g t c =
    let flushes = g.D.Shelf.flushes in
    let m = c.args.tip.now.size in
    let level = c.args.level in
    let index = c.args.index in
    let x = flushes c.args.shelf.now in
    let w = flushes c.find.new.shelf in
    let y = flushes c.bring_row.new.shelf in
    let some : 1 ≤ level = omega arith in
    let long : length c.deref.result.now ≡ 256 = ap length c.deref.ensures.value ∙ c.in_ok-found.ensures.found.is_row.count in
    let row = after_still (IsNewInRow m level index 256) x w y c.find.ensures.still
    (subst (λ n. Secures (IsNewInRow m level index n) w y) long c.in_ok-bring_row.ensures.secured) in
    ok_weaker c.keep.result (λ tile. tile_secured m level index some x y (flushes c.keep.new.shelf) row tile)
    c.keep.ensures.secured

-- ---- what differs

pub bring_row-returns-in_default-clause-differs : goal.bring_row-returns-in_default-clause-differs
bring_row-returns-in_default-clause-differs g t c = λ larger s.
    other_row g.H.TreeHash.digest larger c.args.tip.now c.args.level c.args.index c.args.row.now
    (rw c.in_default.is at c.first_new.ensures.none) s (rw c.in_default.is at c.first_new.ensures.differs)

pub bring_row-returns-in_err-bring_tile-clause-differs : goal.bring_row-returns-in_err-bring_tile-clause-differs
bring_row-returns-in_err-bring_tile-clause-differs g t c =
    err_exit _ c.from_residual.result c.in_err-bring_tile.field-0.0 c.from_residual.ensures (λ larger s.
    c.in_err-bring_tile.ensures.differs larger (child_shown g.H.TreeHash.digest larger c.args.level c.args.index c.loop-i.i
    c.args.row.now c.requires.above c.requires.width (omega arith) s))

pub bring_tile-returns-in_err-found-clause-differs : goal.bring_tile-returns-in_err-found-clause-differs
bring_tile-returns-in_err-found-clause-differs g t c =
    err_exit _ c.from_residual.result c.in_err-found.field-0.0 c.from_residual.ensures (λ larger s.
    differs_none g.H.TreeHash.digest larger c.args.tip.now c.in_err-found.field-0.0 c.in_err-found.ensures.fault)

pub bring_tile-returns-in_err-bring_row-clause-differs : goal.bring_tile-returns-in_err-bring_row-clause-differs
bring_tile-returns-in_err-bring_row-clause-differs g t c =
    let digest = g.H.TreeHash.digest in
    let v = c.in_ok-found.ensures.found in
    let hashes : AreHashesOf 256 c.in_ok-found.found.row.items = record { count = v.is_row.count; sizes = v.is_row.sizes } in
    err_exit _ c.from_residual-in_err-bring_row.result c.in_err-bring_row.field-0.0 c.from_residual-in_err-bring_row.ensures (λ larger s.
    c.in_err-bring_row.ensures.differs larger
    (subst (λ (r : List (List ℕ)). IsShownRow digest larger c.args.level c.args.index r) (sym c.deref.ensures.value)
    (under_shown digest larger c.args.level c.args.index c.args.hash.now c.in_ok-found.found.row.items hashes v.folds s)))

pub bring_tile-returns-then-level-eq0-clause-differs : goal.bring_tile-returns-then-level-eq0-clause-differs
bring_tile-returns-then-level-eq0-clause-differs g t c =
    let zero : c.args.level ≡ 0 = omega arith in
    err_weaker c.bring_bundle.result _ _ (λ e so larger s.
    so larger (subst (λ l. IsShownHash g.H.TreeHash.digest larger l c.args.index c.args.hash.now) zero s)) c.bring_bundle.ensures.differs

pub bring_tile-returns-clause-differs : goal.bring_tile-returns-clause-differs
bring_tile-returns-clause-differs g t c =
    err_weaker c.keep.result IsNoConflict _ (λ e h larger s. differs_none g.H.TreeHash.digest larger c.args.tip.now e h)
    c.keep.ensures.fault
