use Rattle.std.proofs.Common.{rules, ◌≡◌, ◌⊎◌, ◌+◌, ◌-◌, ◌*◌, ◌^◌, ◌<◌, ◌≤◌, ℕ, List, [], ◌∷◌, inr, length, refl, subst, sym, ap, ◌∙◌, arith, get_or}
use Rattle.std.proofs.lemmas.List.{get_or_default}
use Rattle.std.specs.Prelude.{IfOk, IsTrue}
use Rattle.tlog_tiles.specs.declared.paths.Path.TheVariants.{Tile}
use Rattle.mirror_sources.specs.Recorded.{AddsToRecord, KeepsRecord}
use Rattle.copy_places.proofs.Asking.{asks_same, asks_weaker, asks_then}
use Rattle.copy_follow.specs.Growing.{IsBrought, IsKnown, IsRowBrought, empty_tip}
use Rattle.copy_follow.specs.Standing.{RecordsStands}
use Rattle.copy_follow.specs.Suffices.{IsTileRow, IsTileHash}
use Rattle.copy_follow.specs.Repaired.{AreFullsClear, IsFullFile}
use Rattle.copy_follow.specs.Taken.{MayTake}
use Rattle.copy_follow.proofs.Earlier.{kept_then}
use Rattle.copy_follow.proofs.Growth.{gathers_keep, gathers_none, gathers_then, kept_same}
use Rattle.copy_follow.proofs.Mending.{fulls_later, mends_none, mends_put, mends_then, past_none, row_first, row_found, true_tile}
use Rattle.copy_follow.proofs.Naming.{names_at, names_lack, names_none, names_then}
use Rattle.copy_follow.proofs.NewFulls.{full_tile_asked}
use Rattle.copy_follow.proofs.Spared.{child_true}
use Rattle.copy_follow.proofs.TileRows.{child_small, row_fits, row_then, so_far_known, so_far_more, tile_brought}
use Rattle.mirror_model.specs.TrueLaws.{AreShort}
use Rattle.copy_follow.specs.Lacked.{GoesAlong, GoesBelow, LacksTile}
use Rattle.copy_follow.specs.Named.{NamesDamaged}
use Rattle.copy_follow.proofs.Lacking.{along_more, below_second, tile_more, tile_nobodys}
use Rattle.copy_follow.proofs.mend_tiles.+mending.Goals as goal

pub mend_row-loop-i-init : goal.mend_row-loop-i-init
mend_row-loop-i-init g t c =
    let x = g.D.Shelf.puts c.args.shelf.now in
    let p = c.args.places.now in
    let n = c.args.repaired.now.put in
    record {
      counted = refl;
      mends = mends_none g.S.Source.may_answer g.S.Source.failed g.S.Source.asked IsFullFile p p x x n n
          (asks_same g.S.Source.may_answer g.S.Source.failed g.S.Source.asked IsFullFile p) (kept_same x) refl;
      keeps = λ log clear is. gathers_none g.H.TreeHash.digest 0 log x x (kept_same x);
      whole = λ yes known is. row_first c.args.level c.args.index g.H.TreeHash.digest c.args.row.now known x is;
      goes_on = λ log short clear is k lt. absurd (omega (arith, lt));
      names = λ log short clear is.
          names_none g.H.TreeHash.digest log x c.args.repaired.now.damaged.items c.args.repaired.now.damaged.items refl;
    }

pub mend_row-overflow_mul-index : goal.mend_row-overflow_mul-index
mend_row-overflow_mul-index g t c =
    let lt : c.loop-i.i < length c.args.row.now = omega arith in
    let small = child_small c.args.level c.args.index (length c.args.row.now) c.loop-i.i lt c.requires.fits in
    search rules

pub mend_row-overflow_add-index : goal.mend_row-overflow_add-index
mend_row-overflow_add-index g t c =
    let lt : c.loop-i.i < length c.args.row.now = omega arith in
    let small = child_small c.args.level c.args.index (length c.args.row.now) c.loop-i.i lt c.requires.fits in
    search rules

pub mend_row-returns-in-Err-clause-mends : goal.mend_row-returns-in-Err-clause-mends
mend_row-returns-in-Err-clause-mends g t c =
    mends_then g.S.Source.may_answer g.S.Source.failed g.S.Source.asked IsFullFile c.args.places.now c.loop-i.places
    c.mend_tile.new.places (g.D.Shelf.puts c.args.shelf.now) (g.D.Shelf.puts c.loop-i.shelf) (g.D.Shelf.puts c.mend_tile.new.shelf)
    c.args.repaired.now.put c.loop-i.repaired.put c.mend_tile.new.repaired.put c.loop-i.invariant.mends c.mend_tile.ensures.mends

pub mend_row-returns-in-Err-clause-keeps : goal.mend_row-returns-in-Err-clause-keeps
mend_row-returns-in-Err-clause-keeps g t c = λ log clear is.
    let digest = g.H.TreeHash.digest in
    let x = g.D.Shelf.puts c.args.shelf.now in
    let y = g.D.Shelf.puts c.loop-i.shelf in
    let z = g.D.Shelf.puts c.mend_tile.new.shelf in
    gathers_then digest 0 log log log x y z (c.loop-i.invariant.keeps log clear is)
    (c.mend_tile.ensures.keeps log
    (fulls_later g.S.Source.may_answer g.S.Source.failed g.S.Source.asked IsFullFile c.args.places.now c.loop-i.places
    c.loop-i.invariant.mends.asks digest g.met.H.TreeHash.digest_length log x y c.loop-i.invariant.mends.taken (c.loop-i.invariant.keeps log clear is) clear)
    (child_true digest g.met.H.TreeHash.digest_length log c.args.level c.args.index c.loop-i.i c.args.row.now c.requires.above
    (omega arith) is))

pub mend_row-loop-i-preserved : goal.mend_row-loop-i-preserved
mend_row-loop-i-preserved g t c =
    let digest = g.H.TreeHash.digest in
    let x = g.D.Shelf.puts c.args.shelf.now in
    let y = g.D.Shelf.puts c.loop-i.shelf in
    let z = g.D.Shelf.puts c.mend_tile.new.shelf in
    record {
      counted = c.in-Ok.ensures.counted ∙ c.loop-i.invariant.counted;
      mends = mends_then g.S.Source.may_answer g.S.Source.failed g.S.Source.asked IsFullFile c.args.places.now c.loop-i.places
          c.mend_tile.new.places x y z c.args.repaired.now.put c.loop-i.repaired.put c.mend_tile.new.repaired.put
          c.loop-i.invariant.mends c.mend_tile.ensures.mends;
      keeps = λ log clear is.
          gathers_then digest 0 log log log x y z (c.loop-i.invariant.keeps log clear is)
          (c.mend_tile.ensures.keeps log
          (fulls_later g.S.Source.may_answer g.S.Source.failed g.S.Source.asked IsFullFile c.args.places.now c.loop-i.places
          c.loop-i.invariant.mends.asks digest g.met.H.TreeHash.digest_length log x y c.loop-i.invariant.mends.taken (c.loop-i.invariant.keeps log clear is) clear)
          (child_true digest g.met.H.TreeHash.digest_length log c.args.level c.args.index c.loop-i.i c.args.row.now c.requires.above
          (omega arith) is));
      whole = λ yes known is.
          let both = c.both-all.ensures yes in
          let row = c.args.row.now in
          let i = c.loop-i.i in
          let level = c.args.level in
          let index = c.args.index in
          let lt : i < length row = omega arith in
          let h = get_or row i [] in
          let s = c.loop-i.invariant.whole both.0 known is in
          so_far_more empty_tip level index (past_none (level + 1) index) c.requires.above c.requires.level digest row known x y z
          i h lt (get_or_default row i [] h lt) (past_none level (256 * index + i)) s
          (c.in-Ok.ensures.whole both.1 s.next
          (so_far_known empty_tip level index (past_none (level + 1) index) c.requires.above c.requires.level digest row known x y
          i (index * 256 ^ (level + 1)) is s));
      goes_on = λ log short clear is.
          let may = g.S.Source.may_answer in
          let failed = g.S.Source.failed in
          let asked = g.S.Source.asked in
          let so = IsFullFile in
          let p = c.args.places.now in
          let q = c.loop-i.places in
          let r = c.mend_tile.new.places in
          let m = c.loop-i.invariant.mends in
          let still = fulls_later may failed asked so p q m.asks digest g.met.H.TreeHash.digest_length log x y m.taken (c.loop-i.invariant.keeps log clear is) clear in
          let child = child_true digest g.met.H.TreeHash.digest_length log c.args.level c.args.index c.loop-i.i c.args.row.now
          c.requires.above (omega arith) is in
          along_more may failed asked digest log so so p q r m.asks c.mend_tile.ensures.mends.asks x y z
          (c.loop-i.invariant.keeps log clear is) (c.mend_tile.ensures.keeps log still child)
          (gathers_none digest 0 log x x (kept_same x)) c.args.level c.args.index c.loop-i.i
          (c.loop-i.invariant.goes_on log short clear is) (c.in-Ok.ensures.goes_on log short still child);
      names = λ log short clear is.
          let may = g.S.Source.may_answer in
          let failed = g.S.Source.failed in
          let asked = g.S.Source.asked in
          let p = c.args.places.now in
          let m = c.loop-i.invariant.mends in
          let still = fulls_later may failed asked IsFullFile p c.loop-i.places m.asks digest g.met.H.TreeHash.digest_length log x y m.taken (c.loop-i.invariant.keeps log clear is) clear in
          let child = child_true digest g.met.H.TreeHash.digest_length log c.args.level c.args.index c.loop-i.i c.args.row.now
          c.requires.above (omega arith) is in
          names_then digest log x y c.args.repaired.now.damaged.items c.loop-i.repaired.damaged.items
          c.mend_tile.new.repaired.damaged.items (c.loop-i.invariant.keeps log clear is) (c.loop-i.invariant.names log short clear is)
          (c.in-Ok.ensures.names log short still child);
    }

pub mend_tile-returns-then-level-eq0-clause-whole : goal.mend_tile-returns-then-level-eq0-clause-whole
mend_tile-returns-then-level-eq0-clause-whole g t c =
    let zero : 0 ≡ c.args.level = omega arith in
    let digest = g.H.TreeHash.digest in
    let x = g.D.Shelf.puts c.args.shelf.now in
    let y = g.D.Shelf.puts c.mend_bundle.new.shelf in
    subst (λ l. IfOk c.mend_bundle.result (λ all. IsTrue all → (known : List (List ℕ)) →
    IsKnown digest empty_tip (c.args.index * 256 ^ (l + 1)) known →
    IsBrought digest empty_tip l c.args.index c.args.hash.now known x y)) zero c.mend_bundle.ensures.whole

pub mend_tile-returns-in-Ok-clause-mends : goal.mend_tile-returns-in-Ok-clause-mends
mend_tile-returns-in-Ok-clause-mends g t c =
    let may = g.S.Source.may_answer in
    let failed = g.S.Source.failed in
    let asked = g.S.Source.asked in
    let path = Tile c.args.level c.args.index 256 in
    let x = g.D.Shelf.puts c.args.shelf.now in
    let y = g.D.Shelf.puts c.look_for.new.shelf in
    let z = g.D.Shelf.puts c.note_lack.new.shelf in
    let asks = asks_weaker may failed asked (λ p. p ≡ path) IsFullFile
    (full_tile_asked c.args.level c.args.index) c.args.places.now
    c.look_for.new.places c.look_for.ensures.asks in
    mends_none may failed asked IsFullFile c.args.places.now c.look_for.new.places x z c.args.repaired.now.put
    c.note_lack.new.repaired.put asks (kept_then x y z c.look_for.ensures.same c.note_lack.ensures.same) c.note_lack.ensures.put

pub mend_tile-returns-in-Err-note_lack-clause-mends : goal.mend_tile-returns-in-Err-note_lack-clause-mends
mend_tile-returns-in-Err-note_lack-clause-mends g t c =
    let may = g.S.Source.may_answer in
    let failed = g.S.Source.failed in
    let asked = g.S.Source.asked in
    let path = Tile c.args.level c.args.index 256 in
    let x = g.D.Shelf.puts c.args.shelf.now in
    let y = g.D.Shelf.puts c.look_for.new.shelf in
    let z = g.D.Shelf.puts c.note_lack.new.shelf in
    let asks = asks_weaker may failed asked (λ p. p ≡ path) IsFullFile
    (full_tile_asked c.args.level c.args.index) c.args.places.now
    c.look_for.new.places c.look_for.ensures.asks in
    mends_none may failed asked IsFullFile c.args.places.now c.look_for.new.places x z c.args.repaired.now.put
    c.note_lack.new.repaired.put asks (kept_then x y z c.look_for.ensures.same c.note_lack.ensures.same) c.note_lack.ensures.put

pub mend_tile-returns-in-Ok-clause-keeps : goal.mend_tile-returns-in-Ok-clause-keeps
mend_tile-returns-in-Ok-clause-keeps g t c = λ log clear is.
    let x = g.D.Shelf.puts c.args.shelf.now in
    let y = g.D.Shelf.puts c.look_for.new.shelf in
    let z = g.D.Shelf.puts c.note_lack.new.shelf in
    gathers_none g.H.TreeHash.digest 0 log x z (kept_then x y z c.look_for.ensures.same c.note_lack.ensures.same)

pub mend_tile-returns-in-Err-note_lack-clause-keeps : goal.mend_tile-returns-in-Err-note_lack-clause-keeps
mend_tile-returns-in-Err-note_lack-clause-keeps g t c = λ log clear is.
    let x = g.D.Shelf.puts c.args.shelf.now in
    let y = g.D.Shelf.puts c.look_for.new.shelf in
    let z = g.D.Shelf.puts c.note_lack.new.shelf in
    gathers_none g.H.TreeHash.digest 0 log x z (kept_then x y z c.look_for.ensures.same c.note_lack.ensures.same)

pub mend_tile-returns-in-Err-clause-mends : goal.mend_tile-returns-in-Err-clause-mends
mend_tile-returns-in-Err-clause-mends g t c =
    let may = g.S.Source.may_answer in
    let failed = g.S.Source.failed in
    let asked = g.S.Source.asked in
    let path = Tile c.args.level c.args.index 256 in
    let n = c.args.repaired.now.put in
    let asks = asks_weaker may failed asked (λ p. p ≡ path) IsFullFile
    (full_tile_asked c.args.level c.args.index) c.args.places.now
    c.look_for.new.places c.look_for.ensures.asks in
    mends_none may failed asked IsFullFile c.args.places.now c.look_for.new.places (g.D.Shelf.puts c.args.shelf.now)
    (g.D.Shelf.puts c.look_for.new.shelf) n n asks c.look_for.ensures.same refl

pub mend_tile-returns-in-Err-clause-keeps : goal.mend_tile-returns-in-Err-clause-keeps
mend_tile-returns-in-Err-clause-keeps g t c = λ log clear is.
    gathers_none g.H.TreeHash.digest 0 log (g.D.Shelf.puts c.args.shelf.now) (g.D.Shelf.puts c.look_for.new.shelf)
    c.look_for.ensures.same

pub mend_tile-mend_row-requires : goal.mend_tile-mend_row-requires
mend_tile-mend_row-requires g t c κs within =
    let found = rw c.in-Ok-Some.field-0-is at c.in-Ok-Some.ensures.found in
    let long : length c.deref.result.now ≡ 256 = ap length c.deref.ensures.value ∙ found.is_row.count in
    let fits = row_fits c.args.level c.args.index (length c.deref.result.now) long c.requires.fits in (
      search rules,
      (
        search rules,
        (
          search rules,
          (search rules, (omega arith, (omega arith, (omega arith, fits)))),
        ),
      ),
    )

pub mend_tile-returns-in-Err-mend_row-clause-mends : goal.mend_tile-returns-in-Err-mend_row-clause-mends
mend_tile-returns-in-Err-mend_row-clause-mends g t c =
    let may = g.S.Source.may_answer in
    let failed = g.S.Source.failed in
    let asked = g.S.Source.asked in
    let path = Tile c.args.level c.args.index 256 in
    let p = c.args.places.now in
    let q = c.look_for.new.places in
    let n = c.args.repaired.now.put in
    let x = g.D.Shelf.puts c.args.shelf.now in
    let y = g.D.Shelf.puts c.look_for.new.shelf in
    let asks = asks_weaker may failed asked (λ p. p ≡ path) IsFullFile
    (full_tile_asked c.args.level c.args.index) p q c.look_for.ensures.asks in
    mends_then may failed asked IsFullFile p q c.mend_row.new.places x y (g.D.Shelf.puts c.mend_row.new.shelf) n n
    c.mend_row.new.repaired.put (mends_none may failed asked IsFullFile p q x y n n asks c.look_for.ensures.same refl)
    c.mend_row.ensures.mends

pub mend_tile-returns-in-Err-mend_row-clause-keeps : goal.mend_tile-returns-in-Err-mend_row-clause-keeps
mend_tile-returns-in-Err-mend_row-clause-keeps g t c = λ log clear is.
    let may = g.S.Source.may_answer in
    let failed = g.S.Source.failed in
    let asked = g.S.Source.asked in
    let digest = g.H.TreeHash.digest in
    let level = c.args.level in
    let index = c.args.index in
    let path = Tile level index 256 in
    let p = c.args.places.now in
    let q = c.look_for.new.places in
    let n = c.args.repaired.now.put in
    let x = g.D.Shelf.puts c.args.shelf.now in
    let y = g.D.Shelf.puts c.look_for.new.shelf in
    let z = g.D.Shelf.puts c.mend_row.new.shelf in
    let asks = asks_weaker may failed asked (λ p. p ≡ path) IsFullFile
    (full_tile_asked level index) p q c.look_for.ensures.asks in
    let m = mends_none may failed asked IsFullFile p q x y n n asks c.look_for.ensures.same refl in
    let row = row_found digest g.met.H.TreeHash.digest_length log (MayTake may p x) clear.files level index (omega arith) c.args.hash.now
    c.in-Ok-Some.found.bytes.items c.in-Ok-Some.found.row.items (rw c.in-Ok-Some.field-0-is at c.in-Ok-Some.ensures.taken)
    (rw c.in-Ok-Some.field-0-is at c.in-Ok-Some.ensures.found) is in
    gathers_then digest 0 log log log x y z (gathers_none digest 0 log x y c.look_for.ensures.same)
    (c.mend_row.ensures.keeps log (fulls_later may failed asked IsFullFile p q asks digest g.met.H.TreeHash.digest_length log x y m.taken (gathers_none digest 0 log x y c.look_for.ensures.same) clear)
    (subst (λ r. IsTileRow digest log level index r) (sym c.deref.ensures.value) row))

pub mend_tile-returns-in-Ok-mend-clause-mends : goal.mend_tile-returns-in-Ok-mend-clause-mends
mend_tile-returns-in-Ok-mend-clause-mends g t c =
    let may = g.S.Source.may_answer in
    let failed = g.S.Source.failed in
    let asked = g.S.Source.asked in
    let path = Tile c.args.level c.args.index 256 in
    let p = c.args.places.now in
    let q = c.look_for.new.places in
    let r = c.mend_row.new.places in
    let n = c.args.repaired.now.put in
    let x = g.D.Shelf.puts c.args.shelf.now in
    let y = g.D.Shelf.puts c.look_for.new.shelf in
    let z = g.D.Shelf.puts c.mend_row.new.shelf in
    let w = g.D.Shelf.puts c.mend.new.shelf in
    let bytes = c.in-Ok-Some.found.bytes.items in
    let asks = asks_weaker may failed asked (λ p. p ≡ path) IsFullFile
    (full_tile_asked c.args.level c.args.index) p q c.look_for.ensures.asks in
    let m = mends_then may failed asked IsFullFile p q r x y z n n
    c.mend_row.new.repaired.put (mends_none may failed asked IsFullFile p q x y n n asks c.look_for.ensures.same refl)
    c.mend_row.ensures.mends in
    let puts = subst (λ b. (KeepsRecord z w) ⊎ (AddsToRecord z w ((path, b) ∷ []))) c.deref-2.ensures.value c.mend.ensures.puts in
    mends_put may failed asked IsFullFile p r x z w n c.mend_row.new.repaired.put c.mend.new.repaired.put path bytes m puts
    (inr (rw c.in-Ok-Some.field-0-is at c.in-Ok-Some.ensures.taken)) c.mend.ensures.counts

pub mend_tile-returns-in-Ok-mend-clause-keeps : goal.mend_tile-returns-in-Ok-mend-clause-keeps
mend_tile-returns-in-Ok-mend-clause-keeps g t c = λ log clear is.
    let may = g.S.Source.may_answer in
    let failed = g.S.Source.failed in
    let asked = g.S.Source.asked in
    let digest = g.H.TreeHash.digest in
    let level = c.args.level in
    let index = c.args.index in
    let path = Tile level index 256 in
    let p = c.args.places.now in
    let q = c.look_for.new.places in
    let n = c.args.repaired.now.put in
    let x = g.D.Shelf.puts c.args.shelf.now in
    let y = g.D.Shelf.puts c.look_for.new.shelf in
    let z = g.D.Shelf.puts c.mend_row.new.shelf in
    let w = g.D.Shelf.puts c.mend.new.shelf in
    let bytes = c.in-Ok-Some.found.bytes.items in
    let found = rw c.in-Ok-Some.field-0-is at c.in-Ok-Some.ensures.found in
    let asks = asks_weaker may failed asked (λ p. p ≡ path) IsFullFile
    (full_tile_asked level index) p q c.look_for.ensures.asks in
    let m = mends_none may failed asked IsFullFile p q x y n n asks c.look_for.ensures.same refl in
    let row = row_found digest g.met.H.TreeHash.digest_length log (MayTake may p x) clear.files level index (omega arith) c.args.hash.now
    bytes c.in-Ok-Some.found.row.items (rw c.in-Ok-Some.field-0-is at c.in-Ok-Some.ensures.taken) found is in
    let puts = subst (λ b. (KeepsRecord z w) ⊎ (AddsToRecord z w ((path, b) ∷ []))) c.deref-2.ensures.value c.mend.ensures.puts in
    let below = gathers_then digest 0 log log log x y z (gathers_none digest 0 log x y c.look_for.ensures.same)
    (c.mend_row.ensures.keeps log (fulls_later may failed asked IsFullFile p q asks digest g.met.H.TreeHash.digest_length log x y m.taken (gathers_none digest 0 log x y c.look_for.ensures.same) clear)
    (subst (λ r. IsTileRow digest log level index r) (sym c.deref.ensures.value) row)) in
    gathers_then digest 0 log log log x z w below
    (gathers_keep digest 0 log z w (path, bytes) puts
    (true_tile digest g.met.H.TreeHash.digest_length log level index (omega arith) bytes c.in-Ok-Some.found.row.items
    found.is_row.text found.is_row.count row))

pub mend_tile-returns-clause-mends : goal.mend_tile-returns-clause-mends
mend_tile-returns-clause-mends g t c =
    let may = g.S.Source.may_answer in
    let failed = g.S.Source.failed in
    let asked = g.S.Source.asked in
    let path = Tile c.args.level c.args.index 256 in
    let p = c.args.places.now in
    let q = c.look_for.new.places in
    let r = c.mend_row.new.places in
    let n = c.args.repaired.now.put in
    let x = g.D.Shelf.puts c.args.shelf.now in
    let y = g.D.Shelf.puts c.look_for.new.shelf in
    let z = g.D.Shelf.puts c.mend_row.new.shelf in
    let w = g.D.Shelf.puts c.mend.new.shelf in
    let bytes = c.in-Ok-Some.found.bytes.items in
    let asks = asks_weaker may failed asked (λ p. p ≡ path) IsFullFile
    (full_tile_asked c.args.level c.args.index) p q c.look_for.ensures.asks in
    let m = mends_then may failed asked IsFullFile p q r x y z n n
    c.mend_row.new.repaired.put (mends_none may failed asked IsFullFile p q x y n n asks c.look_for.ensures.same refl)
    c.mend_row.ensures.mends in
    let puts = subst (λ b. (KeepsRecord z w) ⊎ (AddsToRecord z w ((path, b) ∷ []))) c.deref-2.ensures.value c.mend.ensures.puts in
    mends_put may failed asked IsFullFile p r x z w n c.mend_row.new.repaired.put c.mend.new.repaired.put path bytes m puts
    (inr (rw c.in-Ok-Some.field-0-is at c.in-Ok-Some.ensures.taken)) c.mend.ensures.counts

pub mend_tile-returns-clause-keeps : goal.mend_tile-returns-clause-keeps
mend_tile-returns-clause-keeps g t c = λ log clear is.
    let may = g.S.Source.may_answer in
    let failed = g.S.Source.failed in
    let asked = g.S.Source.asked in
    let digest = g.H.TreeHash.digest in
    let level = c.args.level in
    let index = c.args.index in
    let path = Tile level index 256 in
    let p = c.args.places.now in
    let q = c.look_for.new.places in
    let n = c.args.repaired.now.put in
    let x = g.D.Shelf.puts c.args.shelf.now in
    let y = g.D.Shelf.puts c.look_for.new.shelf in
    let z = g.D.Shelf.puts c.mend_row.new.shelf in
    let w = g.D.Shelf.puts c.mend.new.shelf in
    let bytes = c.in-Ok-Some.found.bytes.items in
    let found = rw c.in-Ok-Some.field-0-is at c.in-Ok-Some.ensures.found in
    let asks = asks_weaker may failed asked (λ p. p ≡ path) IsFullFile
    (full_tile_asked level index) p q c.look_for.ensures.asks in
    let m = mends_none may failed asked IsFullFile p q x y n n asks c.look_for.ensures.same refl in
    let row = row_found digest g.met.H.TreeHash.digest_length log (MayTake may p x) clear.files level index (omega arith) c.args.hash.now
    bytes c.in-Ok-Some.found.row.items (rw c.in-Ok-Some.field-0-is at c.in-Ok-Some.ensures.taken) found is in
    let puts = subst (λ b. (KeepsRecord z w) ⊎ (AddsToRecord z w ((path, b) ∷ []))) c.deref-2.ensures.value c.mend.ensures.puts in
    let below = gathers_then digest 0 log log log x y z (gathers_none digest 0 log x y c.look_for.ensures.same)
    (c.mend_row.ensures.keeps log (fulls_later may failed asked IsFullFile p q asks digest g.met.H.TreeHash.digest_length log x y m.taken (gathers_none digest 0 log x y c.look_for.ensures.same) clear)
    (subst (λ r. IsTileRow digest log level index r) (sym c.deref.ensures.value) row)) in
    gathers_then digest 0 log log log x z w below
    (gathers_keep digest 0 log z w (path, bytes) puts
    (true_tile digest g.met.H.TreeHash.digest_length log level index (omega arith) bytes c.in-Ok-Some.found.row.items
    found.is_row.text found.is_row.count row))

pub mend_tile-returns-in-Ok-mend-clause-whole : goal.mend_tile-returns-in-Ok-mend-clause-whole
mend_tile-returns-in-Ok-mend-clause-whole g t c = λ yes known is.
    let digest = g.H.TreeHash.digest in
    let level = c.args.level in
    let index = c.args.index in
    let path = Tile level index 256 in
    let x = g.D.Shelf.puts c.args.shelf.now in
    let y = g.D.Shelf.puts c.look_for.new.shelf in
    let z = g.D.Shelf.puts c.mend_row.new.shelf in
    let w = g.D.Shelf.puts c.mend.new.shelf in
    let bytes = c.in-Ok-Some.found.bytes.items in
    let row = c.in-Ok-Some.found.row.items in
    let found = rw c.in-Ok-Some.field-0-is at c.in-Ok-Some.ensures.found in
    let some : 1 ≤ level = omega arith in
    let upto : level ≤ 7 = omega arith in
    let long : length row ≡ 256 = found.is_row.count in
    let brought = subst (λ r. IsRowBrought digest empty_tip level index r known y z (length r)) c.deref.ensures.value
    (c.in-Ok-mend_row.ensures.whole yes known is) in
    let s = row_then digest empty_tip level index row known x y z c.look_for.ensures.same
    (subst (λ n. IsRowBrought digest empty_tip level index row known y z n) long brought) in
    let puts = subst (λ b. (KeepsRecord z w) ⊎ (AddsToRecord z w ((path, b) ∷ []))) c.deref-2.ensures.value c.mend.ensures.puts in
    let there = subst (λ b. RecordsStands z w path b) c.deref-2.ensures.value c.in-Ok-mend.ensures.stands in
    tile_brought empty_tip level index (past_none (level + 1) index) some upto digest row known x z long s w bytes found.is_row puts
    c.args.hash.now found.folds there

pub mend_tile-returns-then-level-eq0-clause-goes_on : goal.mend_tile-returns-then-level-eq0-clause-goes_on
mend_tile-returns-then-level-eq0-clause-goes_on g t c =
    let zero : 0 ≡ c.args.level = omega arith in
    let digest = g.H.TreeHash.digest in
    let may = g.S.Source.may_answer in
    let p = c.args.places.now in
    let x = g.D.Shelf.puts c.args.shelf.now in
    let y = g.D.Shelf.puts c.mend_bundle.new.shelf in
    subst (λ l. IfOk c.mend_bundle.result (λ all. (log : List (List ℕ)) → AreShort log →
    AreFullsClear digest log (MayTake may p x) → IsTileHash digest log l c.args.index c.args.hash.now →
    GoesBelow digest log may p c.mend_bundle.new.places x y l c.args.index)) zero c.mend_bundle.ensures.goes_on

pub mend_tile-returns-in-Ok-clause-goes_on : goal.mend_tile-returns-in-Ok-clause-goes_on
mend_tile-returns-in-Ok-clause-goes_on g t c = λ log short clear is path below.
    inr (LacksTile c.args.level c.args.index (omega arith) (tile_nobodys g.H.TreeHash.digest g.met.H.TreeHash.digest_length log short
    g.S.Source.may_answer c.args.places.now c.look_for.new.places (g.D.Shelf.puts c.args.shelf.now) c.args.level c.args.index
    (omega arith) c.args.hash.now is (rw c.in-Ok-None.field-0-is at c.in-Ok-None.ensures.none)) below)

pub mend_tile-returns-in-Ok-clause-names : goal.mend_tile-returns-in-Ok-clause-names
mend_tile-returns-in-Ok-clause-names g t c = λ log short clear is.
    let digest = g.H.TreeHash.digest in
    let x = g.D.Shelf.puts c.args.shelf.now in
    let none = tile_nobodys digest g.met.H.TreeHash.digest_length log short g.S.Source.may_answer c.args.places.now
    c.look_for.new.places x c.args.level c.args.index (omega arith) c.args.hash.now is
    (rw c.in-Ok-None.field-0-is at c.in-Ok-None.ensures.none) in
    names_lack digest log x (g.D.Shelf.puts c.look_for.new.shelf) (Tile c.args.level c.args.index 256)
    c.args.repaired.now.damaged.items c.note_lack.new.repaired.damaged.items c.look_for.ensures.same none.shelf
    c.in-Ok.ensures.names

pub mend_tile-returns-in-Ok-mend-clause-goes_on : goal.mend_tile-returns-in-Ok-mend-clause-goes_on
mend_tile-returns-in-Ok-mend-clause-goes_on g t c = λ log short clear is.
    let may = g.S.Source.may_answer in
    let failed = g.S.Source.failed in
    let asked = g.S.Source.asked in
    let so = IsFullFile in
    let digest = g.H.TreeHash.digest in
    let level = c.args.level in
    let index = c.args.index in
    let path = Tile level index 256 in
    let p = c.args.places.now in
    let q = c.look_for.new.places in
    let r = c.mend_row.new.places in
    let n = c.args.repaired.now.put in
    let x = g.D.Shelf.puts c.args.shelf.now in
    let y = g.D.Shelf.puts c.look_for.new.shelf in
    let z = g.D.Shelf.puts c.mend_row.new.shelf in
    let w = g.D.Shelf.puts c.mend.new.shelf in
    let bytes = c.in-Ok-Some.found.bytes.items in
    let found = rw c.in-Ok-Some.field-0-is at c.in-Ok-Some.ensures.found in
    let some : 1 ≤ level = omega arith in
    let asks = asks_weaker may failed asked (λ p. p ≡ path) so (full_tile_asked level index) p q
    c.look_for.ensures.asks in
    let m = mends_none may failed asked so p q x y n n asks c.look_for.ensures.same refl in
    let row = row_found digest g.met.H.TreeHash.digest_length log (MayTake may p x) clear.files level index (omega arith) c.args.hash.now
    bytes c.in-Ok-Some.found.row.items (rw c.in-Ok-Some.field-0-is at c.in-Ok-Some.ensures.taken) found is in
    let placed = subst (λ r. IsTileRow digest log level index r) (sym c.deref.ensures.value) row in
    let still = fulls_later may failed asked so p q asks digest g.met.H.TreeHash.digest_length log x y m.taken (gathers_none digest 0 log x y c.look_for.ensures.same) clear in
    let puts = subst (λ b. (KeepsRecord z w) ⊎ (AddsToRecord z w ((path, b) ∷ []))) c.deref-2.ensures.value c.mend.ensures.puts in
    let start = gathers_none digest 0 log x y c.look_for.ensures.same in
    let below = c.mend_row.ensures.keeps log still placed in
    let new = true_tile digest g.met.H.TreeHash.digest_length log level index (omega arith) bytes c.in-Ok-Some.found.row.items
    found.is_row.text found.is_row.count row in
    let last = gathers_keep digest 0 log z w (path, bytes) puts new in
    let there = subst (λ b. RecordsStands z w path b) (c.deref-2.ensures.value ∙ new.bytes_are) c.in-Ok-mend.ensures.stands in
    let long : length c.deref.result.now ≡ 256 = ap length c.deref.ensures.value ∙ found.is_row.count in
    let along = subst (λ n. GoesAlong digest log may q r y z level index n) long (c.in-Ok-mend_row.ensures.goes_on log short still placed) in
    let none = gathers_none digest 0 log x x (kept_same x) in
    tile_more may failed asked digest log so so p r r
    (asks_then may failed asked so p q r asks c.mend_row.ensures.mends.asks) (asks_same may failed asked so r) x z w
    (gathers_then digest 0 log log log x y z start below) last none level index some
    (λ k lt. below_second may failed asked digest log so so p q r asks c.mend_row.ensures.mends.asks x y z start below none
    (level - 1) (256 * index + k) (along k lt)) there

pub mend_tile-returns-then-level-eq0-clause-names : goal.mend_tile-returns-then-level-eq0-clause-names
mend_tile-returns-then-level-eq0-clause-names g t c =
    let zero : 0 ≡ c.args.level = omega arith in
    let digest = g.H.TreeHash.digest in
    let p = c.args.places.now in
    let x = g.D.Shelf.puts c.args.shelf.now in
    subst (λ l. IfOk c.mend_bundle.result (λ all. (log : List (List ℕ)) → AreShort log →
    AreFullsClear digest log (MayTake g.S.Source.may_answer p x) → IsTileHash digest log l c.args.index c.args.hash.now →
    NamesDamaged digest log x c.args.repaired.now.damaged.items c.mend_bundle.new.repaired.damaged.items)) zero
    c.mend_bundle.ensures.names

pub mend_tile-returns-in-Ok-mend-clause-names : goal.mend_tile-returns-in-Ok-mend-clause-names
mend_tile-returns-in-Ok-mend-clause-names g t c = λ log short clear is.
    let may = g.S.Source.may_answer in
    let failed = g.S.Source.failed in
    let asked = g.S.Source.asked in
    let so = IsFullFile in
    let digest = g.H.TreeHash.digest in
    let level = c.args.level in
    let index = c.args.index in
    let path = Tile level index 256 in
    let p = c.args.places.now in
    let q = c.look_for.new.places in
    let n = c.args.repaired.now.put in
    let x = g.D.Shelf.puts c.args.shelf.now in
    let y = g.D.Shelf.puts c.look_for.new.shelf in
    let z = g.D.Shelf.puts c.mend_row.new.shelf in
    let bytes = c.in-Ok-Some.found.bytes.items in
    let found = rw c.in-Ok-Some.field-0-is at c.in-Ok-Some.ensures.found in
    let asks = asks_weaker may failed asked (λ p. p ≡ path) so (full_tile_asked level index) p q
    c.look_for.ensures.asks in
    let m = mends_none may failed asked so p q x y n n asks c.look_for.ensures.same refl in
    let row = row_found digest g.met.H.TreeHash.digest_length log (MayTake may p x) clear.files level index (omega arith) c.args.hash.now
    bytes c.in-Ok-Some.found.row.items (rw c.in-Ok-Some.field-0-is at c.in-Ok-Some.ensures.taken) found is in
    let placed = subst (λ r. IsTileRow digest log level index r) (sym c.deref.ensures.value) row in
    let still = fulls_later may failed asked so p q asks digest g.met.H.TreeHash.digest_length log x y m.taken (gathers_none digest 0 log x y c.look_for.ensures.same) clear in
    let start = gathers_none digest 0 log x y c.look_for.ensures.same in
    let below = c.mend_row.ensures.keeps log still placed in
    let new = true_tile digest g.met.H.TreeHash.digest_length log level index (omega arith) bytes c.in-Ok-Some.found.row.items
    found.is_row.text found.is_row.count row in
    let l = c.args.repaired.now.damaged.items in
    let k = c.mend_row.new.repaired.damaged.items in
    let e = c.mend.new.repaired.damaged.items in
    names_then digest log x z l k e (gathers_then digest 0 log log log x y z start below)
    (names_then digest log x y l l k start (names_none digest log x l l refl) (c.in-Ok-mend_row.ensures.names log short still placed))
    (names_at digest log z path c.deref-2.result.now k e (c.deref-2.ensures.value ∙ new.bytes_are) c.in-Ok-mend.ensures.names)

pub mend_row-returns-clause-goes_on : goal.mend_row-returns-clause-goes_on
mend_row-returns-clause-goes_on g t c = λ log short clear is k lt.
    c.loop-i.invariant.goes_on log short clear is k (omega (arith, lt))
