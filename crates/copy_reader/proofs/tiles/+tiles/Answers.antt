use Rattle.std.proofs.Common.{List, rules, ◌≡◌, ◌+◌, ◌-◌, ◌*◌, ◌≤◌, [], ◌∷◌, length, get_or, OnOk, IfErr, refl, sym, ap, subst, ◌∙◌, arith}
use Rattle.std.proofs.lemmas.List.{append-nil, get_or_default}
use Rattle.log_reader.specs.Holding.{IsTileHash}
use Rattle.log_reader.proofs.TrueReads.{source_later}
use Rattle.copy_reader.specs.Covering.{CoversRow, CoversTile}
use Rattle.copy_reader.proofs.Given.{on_ok}
use Rattle.copy_reader.proofs.TileRows.{child_small, row_first, row_fits, row_hinted, row_more, tile_covers}
use Rattle.copy_reader.proofs.WholeLogs.{child_hash, tile_row_true}
use Rattle.copy_reader.specs.WholeLogs.{IsTrueRow}
use Rattle.tlog_tiles.specs.Row.{row_text}
use Rattle.tlog_tiles.specs.declared.paths.Path.{Path}
use Rattle.tlog_tiles.specs.declared.paths.Path.TheVariants.{Tile}
use Rattle.copy_reader.specs.Found.{Here}
use Rattle.copy_reader.specs.Order.{row_order, tile_order}
use Rattle.copy_reader.specs.Stops.{AreRead, HasRow, HasTile, StopsIn}
use Rattle.copy_reader.proofs.Orders.{each_next, each_none, each_parts, tile_then}
use Rattle.copy_reader.proofs.ShortLogs.{row_of_tile, tile_verified}
use Rattle.copy_reader.proofs.Stops.{on_err, read_hinted, read_none, read_one, read_then, stops_in}
use Rattle.std.proofs.lemmas.Result.{IfOk-from_err}
use Rattle.log_reader.proofs.Kept.{stays_twice}
use Rattle.copy_reader.specs.AuditFaults.{BlamesPlace, IsFailure, IsForAbsence}
use Rattle.copy_reader.proofs.AuditExits.{blames_exit, err_exit}
use Rattle.copy_reader.proofs.LogStops.{absence_before}
use Rattle.copy_reader.proofs.tiles.+tiles.Goals as goal

pub audit_row-loop-i-init : goal.audit_row-loop-i-init
audit_row-loop-i-init g t c = record {
  counted = refl;
  covers = row_first g.H.TreeHash.digest c.args.level c.args.index c.args.row.now (g.S.Source.may_answer c.args.source.now)
      (g.S.Source.asked c.args.source.now);
  read = read_none g.H.TreeHash.digest (HasRow g.H.TreeHash.digest c.args.level c.args.index c.args.row.now) (g.S.Source.may_answer c.args.source.now) (g.S.Source.asked c.args.source.now)
      (row_order c.args.level c.args.index 0) (each_none (tile_order (c.args.level - 1)) (256 * c.args.index));
}

pub audit_row-overflow_mul-child : goal.audit_row-overflow_mul-child
audit_row-overflow_mul-child g t c =
    let small = child_small c.args.level c.args.index (length c.args.row.now) c.loop-i.i c.loop-i-test.true c.requires.fits in
    search rules

pub audit_row-overflow_add-child : goal.audit_row-overflow_add-child
audit_row-overflow_add-child g t c =
    let small = child_small c.args.level c.args.index (length c.args.row.now) c.loop-i.i c.loop-i-test.true c.requires.fits in
    search rules

pub audit_row-loop-i-preserved : goal.audit_row-loop-i-preserved
audit_row-loop-i-preserved g t c = record {
  counted = c.in_ok-audit_tile.ensures.counted ∙ (c.expect_from.ensures.counted ∙ c.loop-i.invariant.counted);
  covers =
      let may = g.S.Source.may_answer in
      let asked = g.S.Source.asked in
      let row = c.args.row.now in
      let i = c.loop-i.i in
      let h = get_or row i [] in
      let hinted = c.expect_from.new.source in
      row_more g.H.TreeHash.digest c.args.level c.args.index row (may c.args.source.now) (may hinted)
      (may c.audit_tile.new.source) (asked c.args.source.now) (asked hinted) (asked c.audit_tile.new.source) i h
      c.requires.above c.loop-i-test.true (get_or_default row i [] h c.loop-i-test.true)
      (row_hinted g.H.TreeHash.digest c.args.level c.args.index row i (may c.args.source.now) (may c.loop-i.source) (may hinted)
      (asked c.args.source.now) (asked c.loop-i.source) (asked hinted) c.expect_from.ensures.later
      c.expect_from.ensures.recorded c.loop-i.invariant.covers)
      c.in_ok-audit_tile.ensures.covers;
  read =
      let may = g.S.Source.may_answer in
      let asked = g.S.Source.asked in
      let level = c.args.level in
      let first = 256 * c.args.index in
      let i = c.loop-i.i in
      let hinted = c.expect_from.new.source in
      let digest = g.H.TreeHash.digest in
      let row = c.args.row.now in
      let about = HasRow digest level c.args.index row in
      read_then (may c.args.source.now) (may hinted) (may c.audit_tile.new.source) (asked c.args.source.now) (asked hinted)
      (asked c.audit_tile.new.source) digest about (HasTile digest (level - 1) (first + i) (get_or row i []))
      (row_order level c.args.index i) (tile_order (level - 1) (first + i))
      (row_order level c.args.index (i + 1)) (each_next (tile_order (level - 1)) first i)
      (read_hinted (may c.args.source.now) (may c.loop-i.source) (asked c.args.source.now) (asked c.loop-i.source) digest about
      (may hinted) (asked hinted) (row_order level c.args.index i) c.expect_from.ensures.later
      c.expect_from.ensures.recorded c.loop-i.invariant.read)
      (λ entries r t. record {
        short = r.short;
        is_hash = child_hash digest entries level c.args.index row r.is_row c.requires.above c.requires.level i
            c.loop-i-test.true;
      })
      c.in_ok-audit_tile.ensures.read;
}

pub audit_tile-returns-then-level-eq0-clause-covers : goal.audit_tile-returns-then-level-eq0-clause-covers
audit_tile-returns-then-level-eq0-clause-covers g t c =
    let may = g.S.Source.may_answer in
    let asked = g.S.Source.asked in
    let zero : 0 ≡ c.args.level = omega arith in
    subst (λ l. OnOk c.audit_bundle.result (CoversTile g.H.TreeHash.digest l c.args.index c.args.hash.now
    (may c.args.source.now) (may c.audit_bundle.new.source) (asked c.args.source.now) (asked c.audit_bundle.new.source)))
    zero c.audit_bundle.ensures.covers

pub audit_tile-audit_row-requires : goal.audit_tile-audit_row-requires
audit_tile-audit_row-requires g t c κs within =
    let long : length c.deref.result.now ≡ 256 = ap length c.deref.ensures.value ∙ c.in_ok-row.ensures.found.is_row.count in
    let fits = row_fits c.args.level c.args.index (length c.deref.result.now) long c.requires.fits in
    (search rules, (search rules, (search rules, (omega arith, (omega arith, fits)))))

pub audit_tile-returns-clause-covers : goal.audit_tile-returns-clause-covers
audit_tile-returns-clause-covers g t c =
    let digest = g.H.TreeHash.digest in
    let may = g.S.Source.may_answer in
    let asked = g.S.Source.asked in
    let level = c.args.level in
    let index = c.args.index in
    let row = c.in_ok-row.row.items in
    let m = c.row_of.new.source in
    let n = c.audit_row.new.source in
    let some : 1 ≤ level = omega arith in
    on_ok c.audit_row.result c.audit_row.ensures.covers
    (λ below. tile_covers digest level index row (may c.args.source.now) (may m) (may n) (asked c.args.source.now) (asked m)
    (asked n) c.args.hash.now some c.in_ok-row.ensures.found
    (subst (λ r. CoversRow digest level index r (length r) (may m) (may n) (asked m) (asked n)) c.deref.ensures.value below))

pub audit_row-returns-in_err-audit_tile-clause-counted : goal.audit_row-returns-in_err-audit_tile-clause-counted
audit_row-returns-in_err-audit_tile-clause-counted g t c =
    let failed = g.S.Source.failed in
    let exit = c.from_residual in
    blames_exit exit.result c.audit_tile.result c.in_err-audit_tile.field-0.0 exit.ensures c.in_err-audit_tile.was (failed c.args.source.now) (failed c.expect_from.new.source)
    (failed c.audit_tile.new.source) (c.expect_from.ensures.counted ∙ c.loop-i.invariant.counted) c.audit_tile.ensures.counted

pub audit_row-returns-in_err-audit_tile-clause-absent : goal.audit_row-returns-in_err-audit_tile-clause-absent
audit_row-returns-in_err-audit_tile-clause-absent g t c =
    let may = g.S.Source.may_answer in
    let exit = c.from_residual in
    err_exit (IsForAbsence (may c.args.source.now)) exit.result c.in_err-audit_tile.field-0.0 exit.ensures
    (absence_before (may c.args.source.now) (may c.expect_from.new.source)
    (stays_twice c.loop-i.invariant.covers.given.stays c.expect_from.ensures.later) _ c.in_err-audit_tile.ensures.absent)

pub audit_row-returns-in_err-audit_tile-clause-covers : goal.audit_row-returns-in_err-audit_tile-clause-covers
audit_row-returns-in_err-audit_tile-clause-covers g t c = IfOk-from_err c.from_residual.result _ c.from_residual.ensures.0

pub audit_row-returns-in_err-audit_tile-clause-read : goal.audit_row-returns-in_err-audit_tile-clause-read
audit_row-returns-in_err-audit_tile-clause-read g t c = IfOk-from_err c.from_residual.result _ c.from_residual.ensures.0

pub audit_row-returns-in_err-audit_tile-clause-honest : goal.audit_row-returns-in_err-audit_tile-clause-honest
audit_row-returns-in_err-audit_tile-clause-honest g t c = λ entries s row.
    let digest = g.H.TreeHash.digest in
    let may = g.S.Source.may_answer in
    let now = source_later digest entries (may c.args.source.now) (may c.loop-i.source) c.loop-i.invariant.covers.given.stays s in
    let later = source_later digest entries (may c.loop-i.source) (may c.expect_from.new.source)
    c.expect_from.ensures.later now in
    let fault = c.in_err-audit_tile.ensures.honest entries later
    (child_hash digest entries c.args.level c.args.index c.args.row.now row c.requires.above c.requires.level c.loop-i.i
    c.loop-i-test.true) in
    err_exit IsFailure c.from_residual.result c.in_err-audit_tile.field-0.0 c.from_residual.ensures fault

pub audit_tile-returns-then-level-eq0-clause-honest : goal.audit_tile-returns-then-level-eq0-clause-honest
audit_tile-returns-then-level-eq0-clause-honest g t c = λ entries s hash.
    let zero : c.args.level ≡ 0 = omega arith in
    c.audit_bundle.ensures.honest entries s
    (subst (λ l. IsTileHash g.H.TreeHash.digest entries l c.args.index c.args.hash.now) zero hash)

pub audit_tile-returns-in_err-row-clause-counted : goal.audit_tile-returns-in_err-row-clause-counted
audit_tile-returns-in_err-row-clause-counted g t c =
    let failed = g.S.Source.failed in
    let exit = c.from_residual in
    blames_exit exit.result c.row_of.result c.in_err-row.field-0.0 exit.ensures c.in_err-row.was (failed c.args.source.now) (failed c.args.source.now)
    (failed c.row_of.new.source) refl c.row_of.ensures.counted

pub audit_tile-returns-in_err-row-clause-absent : goal.audit_tile-returns-in_err-row-clause-absent
audit_tile-returns-in_err-row-clause-absent g t c =
    let may = g.S.Source.may_answer in
    let exit = c.from_residual in
    err_exit (IsForAbsence (may c.args.source.now)) exit.result c.in_err-row.field-0.0 exit.ensures
    c.in_err-row.ensures.absent

pub audit_tile-returns-in_err-row-clause-covers : goal.audit_tile-returns-in_err-row-clause-covers
audit_tile-returns-in_err-row-clause-covers g t c = IfOk-from_err c.from_residual.result _ c.from_residual.ensures.0

pub audit_tile-returns-in_err-row-clause-read : goal.audit_tile-returns-in_err-row-clause-read
audit_tile-returns-in_err-row-clause-read g t c = IfOk-from_err c.from_residual.result _ c.from_residual.ensures.0

pub audit_tile-returns-in_err-row-clause-honest : goal.audit_tile-returns-in_err-row-clause-honest
audit_tile-returns-in_err-row-clause-honest g t c = λ entries s hash.
    let fault = c.in_err-row.ensures.honest entries c.args.level c.args.index refl s hash in
    err_exit IsFailure c.from_residual.result c.in_err-row.field-0.0 c.from_residual.ensures fault

pub audit_tile-returns-clause-counted : goal.audit_tile-returns-clause-counted
audit_tile-returns-clause-counted g t c =
    let failed = g.S.Source.failed in
    subst (λ n. BlamesPlace n (failed c.audit_row.new.source) c.audit_row.result) c.in_ok-row.ensures.counted
    c.audit_row.ensures.counted

pub audit_tile-returns-clause-absent : goal.audit_tile-returns-clause-absent
audit_tile-returns-clause-absent g t c =
    let a = g.S.Source.may_answer c.args.source.now in
    let b = g.S.Source.may_answer c.row_of.new.source in
    on_err (IsForAbsence b) (IsForAbsence a) c.audit_row.result (absence_before a b c.in_ok-row.ensures.found.given.stays)
    c.audit_row.ensures.absent

pub audit_tile-returns-clause-honest : goal.audit_tile-returns-clause-honest
audit_tile-returns-clause-honest g t c = λ entries s hash.
    let digest = g.H.TreeHash.digest in
    let may = g.S.Source.may_answer in
    let found = c.in_ok-row.ensures in
    let row = tile_row_true digest entries c.args.level c.args.index c.args.hash.now c.in_ok-row.row.items hash
    (found.honest entries c.args.level c.args.index refl s hash) found.found.is_row.count in
    c.audit_row.ensures.honest entries
    (source_later digest entries (may c.args.source.now) (may c.row_of.new.source) found.found.given.stays s)
    (subst (IsTrueRow digest entries c.args.level c.args.index) (sym c.deref.ensures.value) row)

pub audit_tile-returns-then-level-eq0-clause-read : goal.audit_tile-returns-then-level-eq0-clause-read
audit_tile-returns-then-level-eq0-clause-read g t c =
    let may = g.S.Source.may_answer in
    let asked = g.S.Source.asked in
    let zero : 0 ≡ c.args.level = omega arith in
    subst (λ l. OnOk c.audit_bundle.result (AreRead g.H.TreeHash.digest
    (HasTile g.H.TreeHash.digest l c.args.index c.args.hash.now) (tile_order l c.args.index) (may c.args.source.now)
    (may c.audit_bundle.new.source) (asked c.args.source.now) (asked c.audit_bundle.new.source)))
    zero c.audit_bundle.ensures.read

pub audit_tile-returns-then-level-eq0-clause-first : goal.audit_tile-returns-then-level-eq0-clause-first
audit_tile-returns-then-level-eq0-clause-first g t c =
    let may = g.S.Source.may_answer in
    let asked = g.S.Source.asked in
    let digest = g.H.TreeHash.digest in
    let zero : 0 ≡ c.args.level = omega arith in
    subst (λ l. IfErr c.audit_bundle.result (StopsIn digest (tile_order l c.args.index)
    (HasTile digest l c.args.index c.args.hash.now) (may c.args.source.now) (may c.audit_bundle.new.source)
    (asked c.args.source.now) (asked c.audit_bundle.new.source)))
    zero c.audit_bundle.ensures.first

pub audit_tile-returns-in_err-row-clause-first : goal.audit_tile-returns-in_err-row-clause-first
audit_tile-returns-in_err-row-clause-first g t c =
    let digest = g.H.TreeHash.digest in
    let level = c.args.level in
    let index = c.args.index in
    let path = Tile level index 256 in
    let a = g.S.Source.may_answer c.args.source.now in
    let b = g.S.Source.may_answer c.row_of.new.source in
    let x = g.S.Source.asked c.args.source.now in
    let y = g.S.Source.asked c.row_of.new.source in
    let some : 1 ≤ level = omega arith in
    let has = HasTile digest level index c.args.hash.now in
    let stop = stops_in digest [] (path ∷ []) (row_order level index 256) (tile_order level index) has has a a b x x y
    (read_none digest has a x [] refl) (λ entries h t. h) (tile_then level index some) _ (c.in_err-row.ensures.first level index refl) in
    err_exit _ c.from_residual.result c.in_err-row.field-0.0 c.from_residual.ensures stop

pub audit_tile-returns-clause-read : goal.audit_tile-returns-clause-read
audit_tile-returns-clause-read g t c =
    let digest = g.H.TreeHash.digest in
    let hash = g.met.H.TreeHash.digest_length in
    let may = g.S.Source.may_answer in
    let asked = g.S.Source.asked in
    let level = c.args.level in
    let index = c.args.index in
    let h = c.args.hash.now in
    let path = Tile level index 256 in
    let row = c.in_ok-row.row.items in
    let found = c.in_ok-row.ensures.found in
    let low = c.deref.result.now in
    let m = c.row_of.new.source in
    let n = c.audit_row.new.source in
    let some : 1 ≤ level = omega arith in
    let long : length low ≡ 256 = ap length c.deref.ensures.value ∙ found.is_row.count in
    let about = HasTile digest level index h in
    on_ok c.audit_row.result c.audit_row.ensures.read
    (λ below. read_then (may c.args.source.now) (may m) (may n) (asked c.args.source.now) (asked m) (asked n) digest about
    (HasRow digest level index low) (path ∷ []) (row_order level index (length low)) (tile_order level index)
    (tile_then level index some ∙ ap (λ w. path ∷ row_order level index w) (sym long))
    (read_one (may c.args.source.now) (may m) (asked c.args.source.now) (asked m) digest about path (Here (row_text row))
    found.given (λ entries t. tile_verified digest hash entries level index h row t found.is_row found.folds))
    (λ entries t is. subst (λ r. HasRow digest level index r entries) (sym c.deref.ensures.value)
    (row_of_tile digest hash entries level index h row t found.is_row is.0)) below)

pub audit_tile-returns-clause-first : goal.audit_tile-returns-clause-first
audit_tile-returns-clause-first g t c =
    let digest = g.H.TreeHash.digest in
    let may = g.S.Source.may_answer in
    let asked = g.S.Source.asked in
    let level = c.args.level in
    let index = c.args.index in
    let hash = c.args.hash.now in
    let path = Tile level index 256 in
    let row = c.in_ok-row.row.items in
    let found = c.in_ok-row.ensures.found in
    let a = may c.args.source.now in
    let b = may c.row_of.new.source in
    let d = may c.audit_row.new.source in
    let x = asked c.args.source.now in
    let y = asked c.row_of.new.source in
    let z = asked c.audit_row.new.source in
    let some : 1 ≤ level = omega arith in
    let low = c.deref.result.now in
    let long : length low ≡ 256 = ap length c.deref.ensures.value ∙ found.is_row.count in
    on_err (StopsIn digest (row_order level index (length low)) (HasRow digest level index low) b d y z)
    (StopsIn digest (tile_order level index) (HasTile digest level index hash) a d x z) c.audit_row.result
    (stops_in digest (path ∷ []) (row_order level index (length low)) [] (tile_order level index)
    (HasTile digest level index hash) (HasRow digest level index low) a b d x y z
    (read_one a b x y digest (HasTile digest level index hash) path (Here (row_text row)) found.given
    (λ entries h. tile_verified digest g.met.H.TreeHash.digest_length entries level index hash row h found.is_row found.folds))
    (λ entries h t. subst (λ r. HasRow digest level index r entries) (sym c.deref.ensures.value)
    (row_of_tile digest g.met.H.TreeHash.digest_length entries level index hash row h found.is_row t.0))
    (tile_then level index some ∙ ((λ j. path ∷ row_order level index (sym long j))
    ∙ ap (λ (l : List Path). path ∷ l) (sym (append-nil (row_order level index (length low)))))))
    c.audit_row.ensures.first

pub audit_row-returns-in_err-audit_tile-clause-first : goal.audit_row-returns-in_err-audit_tile-clause-first
audit_row-returns-in_err-audit_tile-clause-first g t c =
    let digest = g.H.TreeHash.digest in
    let may = g.S.Source.may_answer in
    let asked = g.S.Source.asked in
    let level = c.args.level in
    let index = c.args.index in
    let row = c.args.row.now in
    let i = c.loop-i.i in
    let order = tile_order (level - 1) in
    let first = 256 * index in
    let hinted = c.expect_from.new.source in
    let h = get_or row i [] in
    let parts = each_parts order first i (length row) c.loop-i-test.true in
    let stop = stops_in digest (row_order level index i) (order (first + i)) parts.rest (row_order level index (length row))
    (HasRow digest level index row) (HasTile digest (level - 1) (first + i) h) (may c.args.source.now) (may hinted)
    (may c.audit_tile.new.source) (asked c.args.source.now) (asked hinted) (asked c.audit_tile.new.source)
    (read_hinted (may c.args.source.now) (may c.loop-i.source) (asked c.args.source.now) (asked c.loop-i.source) digest
    (HasRow digest level index row) (may hinted) (asked hinted) (row_order level index i) c.expect_from.ensures.later c.expect_from.ensures.recorded
    c.loop-i.invariant.read)
    (λ entries r t. record {
      short = r.short;
      is_hash = child_hash digest entries level index row r.is_row c.requires.above c.requires.level i c.loop-i-test.true;
    })
    parts.parts_are _ c.in_err-audit_tile.ensures.first in
    err_exit _ c.from_residual.result c.in_err-audit_tile.field-0.0 c.from_residual.ensures stop
