use Rattle.std.proofs.Common.{[], ◌∷◌, Some, IfSome, inl, refl, ap, subst, ◌∙◌, arith}
use Rattle.tlog_tiles.specs.Row.{row_text}
use Rattle.tlog_tiles.specs.declared.paths.Path.TheVariants.{Tile, Entries}
use Rattle.log_reader.proofs.Refusing.{leaves_one}
use Rattle.log_reader.proofs.TrueBundles.{bundle_verifies}
use Rattle.log_reader.proofs.TrueReads.{source_later}
use Rattle.log_reader.specs.Verified.{Verifies}
use Rattle.log_reader.specs.declared.verify.FullFile.TheVariants.{Bundle}
use Rattle.mirror_sources.specs.Replies.{reply}
use Rattle.copy_reader.specs.Answering.{AreGiven}
use Rattle.copy_reader.proofs.Bundles.{covers_bundle}
use Rattle.copy_reader.proofs.Given.{on_ok}
use Rattle.copy_reader.specs.Found.{Here, IsPresent, IsVerified, TrueFile}
use Rattle.copy_reader.specs.Order.{tile_order}
use Rattle.copy_reader.specs.Stops.{HasLeavesOf, HasTile, StopsIn}
use Rattle.copy_reader.proofs.Orders.{lowest_tile}
use Rattle.copy_reader.proofs.ShortLogs.{bundle_verified, short_verifies}
use Rattle.copy_reader.proofs.Stops.{lacks_first, on_err, read_one, read_then, stops_here, stops_in}
use Rattle.copy_reader.proofs.AuditExits.{err_exit}
use Rattle.copy_reader.specs.AuditFaults.{IsFailure}
use Rattle.copy_reader.proofs.audit_bundle.audit_bundle.Goals as goal

pub returns-clause-covers : goal.returns-clause-covers
returns-clause-covers g c =
    let digest = g.H.TreeHash.digest in
    let index = c.args.index in
    let hash = c.args.hash.now in
    let bytes = c.in_ok-bytes.bytes.items in
    let row = c.in-Some.row.items in
    let may = g.S.Source.may_answer in
    let asked = g.S.Source.asked in
    let m = c.get_file.new.source in
    let n = c.audit_leaves.new.source in
    let v = subst (λ b. Verifies digest Bundle hash b row) c.deref.ensures.value
    (subst (λ o. IfSome o (λ r. Verifies digest Bundle hash c.deref.result.now r.items)) c.in-Some.is c.in_ok-row.ensures.found) in
    on_ok c.audit_leaves.result c.audit_leaves.ensures.given
    (λ given. covers_bundle digest index hash bytes row v (may c.args.source.now) (may m) (may n)
    (asked c.args.source.now) (asked m) (asked n) c.in_ok-bytes.ensures.given
    (subst (λ r. AreGiven (may m) (may n) (asked m) (asked n) (reply (Tile 0 index 256) (Some (row_text r)) ∷ []))
    c.deref-2.ensures.value given))

pub returns-in_err-bytes-clause-honest : goal.returns-in_err-bytes-clause-honest
returns-in_err-bytes-clause-honest g c = λ entries s t.
    let fault = c.in_err-bytes.ensures.honest g.H.TreeHash.digest entries s (inl (record { fits = t.fits; width_is = refl }))
    (omega arith) in
    err_exit IsFailure c.from_residual.result c.in_err-bytes.field-0.0 c.from_residual.ensures fault

pub returns-in_default-clause-honest : goal.returns-in_default-clause-honest
returns-in_default-clause-honest g c = λ entries s t.
    let digest = g.H.TreeHash.digest in
    let is = c.in_ok-bytes.ensures.honest digest entries s (inl (record { fits = t.fits; width_is = refl })) (omega arith) in
    absurd ((rw c.in_default.is at c.in_ok-row.ensures.none) _
    (bundle_verifies digest g.met.H.TreeHash.digest_length entries (g.S.Source.may_answer c.args.source.now) s c.args.index
    c.args.hash.now t c.deref.result.now (c.deref.ensures.value ∙ is)))

pub returns-clause-honest : goal.returns-clause-honest
returns-clause-honest g c = λ entries s t.
    let digest = g.H.TreeHash.digest in
    let may = g.S.Source.may_answer in
    let bytes = c.deref.result.now in
    let row = c.in-Some.row.items in
    let is = c.in_ok-bytes.ensures.honest digest entries s (inl (record { fits = t.fits; width_is = refl })) (omega arith) in
    let due = bundle_verifies digest g.met.H.TreeHash.digest_length entries (may c.args.source.now) s c.args.index
    c.args.hash.now t bytes (c.deref.ensures.value ∙ is) in
    let found = subst (λ o. IfSome o (λ r. Verifies digest Bundle c.args.hash.now bytes r.items)) c.in-Some.is
    c.in_ok-row.ensures.found in
    c.audit_leaves.ensures.honest digest entries
    (source_later digest entries (may c.args.source.now) (may c.get_file.new.source) c.in_ok-bytes.ensures.given.stays s)
    (omega (arith, t.fits)) (c.deref-2.ensures.value ∙ leaves_one digest 256 bytes row _ found.is_row due.is_row)

pub returns-clause-read : goal.returns-clause-read
returns-clause-read g c =
    let digest = g.H.TreeHash.digest in
    let hash = g.met.H.TreeHash.digest_length in
    let index = c.args.index in
    let h = c.args.hash.now in
    let may = g.S.Source.may_answer in
    let asked = g.S.Source.asked in
    let m = c.get_file.new.source in
    let n = c.audit_leaves.new.source in
    let bundle = Entries index 256 in
    let tile = Tile 0 index 256 in
    let bytes = c.deref.result.now in
    let row = c.in-Some.row.items in
    let found = subst (λ o. IfSome o (λ r. Verifies digest Bundle h bytes r.items)) c.in-Some.is c.in_ok-row.ensures.found in
    let about = HasTile digest 0 index h in
    let inner = HasLeavesOf digest index c.deref-2.result.now in
    on_ok c.audit_leaves.result c.audit_leaves.ensures.given
    (λ given. read_then (may c.args.source.now) (may m) (may n) (asked c.args.source.now) (asked m) (asked n) digest about inner
    (bundle ∷ []) (tile ∷ []) (tile_order 0 index) (lowest_tile index)
    (read_one (may c.args.source.now) (may m) (asked c.args.source.now) (asked m) digest about bundle
    (Here c.in_ok-bytes.bytes.items) c.in_ok-bytes.ensures.given
    (λ entries t. subst (λ b. IsVerified digest entries bundle (Here b)) c.deref.ensures.value
    (bundle_verified digest hash entries index h bytes row t found)))
    (λ entries t is.
    let due = short_verifies digest hash entries t.short index h t.is_hash bytes (c.deref.ensures.value ∙ is.0) in
    c.deref-2.ensures.value ∙ leaves_one digest 256 bytes row _ found.is_row due.is_row)
    (read_one (may m) (may n) (asked m) (asked n) digest inner tile (Here (row_text c.deref-2.result.now)) given
    (λ entries t. TrueFile tile (Here (row_text c.deref-2.result.now)) (ap row_text t))))

pub returns-in_err-bytes-clause-first : goal.returns-in_err-bytes-clause-first
returns-in_err-bytes-clause-first g c =
    let index = c.args.index in
    let stop = lacks_first g.H.TreeHash.digest (tile_order 0 index) (HasTile g.H.TreeHash.digest 0 index c.args.hash.now)
    (g.S.Source.may_answer c.args.source.now) (g.S.Source.may_answer c.get_file.new.source)
    (g.S.Source.asked c.args.source.now) (g.S.Source.asked c.get_file.new.source) (Entries index 256)
    (Tile 0 index 256 ∷ []) (lowest_tile index) refl _ c.in_err-bytes.ensures.missing in
    err_exit _ c.from_residual.result c.in_err-bytes.field-0.0 c.from_residual.ensures stop

pub returns-in_default-clause-first : goal.returns-in_default-clause-first
returns-in_default-clause-first g c =
    let digest = g.H.TreeHash.digest in
    let index = c.args.index in
    stops_here digest (tile_order 0 index) (HasTile digest 0 index c.args.hash.now)
    (g.S.Source.may_answer c.args.source.now) (g.S.Source.may_answer c.get_file.new.source)
    (g.S.Source.asked c.args.source.now) (g.S.Source.asked c.get_file.new.source) IsPresent (Entries index 256)
    (Here c.in_ok-bytes.bytes.items) (Tile 0 index 256 ∷ []) (lowest_tile index) c.in_ok-bytes.ensures.given tt
    (λ entries h is. (rw c.in_default.is at c.in_ok-row.ensures.none) _
    (short_verifies digest g.met.H.TreeHash.digest_length entries h.short index c.args.hash.now h.is_hash c.deref.result.now
    (c.deref.ensures.value ∙ is)))

pub returns-clause-first : goal.returns-clause-first
returns-clause-first g c =
    let digest = g.H.TreeHash.digest in
    let index = c.args.index in
    let hash = c.args.hash.now in
    let may = g.S.Source.may_answer in
    let asked = g.S.Source.asked in
    let m = c.get_file.new.source in
    let n = c.audit_leaves.new.source in
    let bundle = Entries index 256 in
    let tile = Tile 0 index 256 in
    let bytes = c.deref.result.now in
    let row = c.in-Some.row.items in
    let found = subst (λ o. IfSome o (λ r. Verifies digest Bundle hash bytes r.items)) c.in-Some.is c.in_ok-row.ensures.found in
    on_err (StopsIn digest (tile ∷ []) (HasLeavesOf digest index c.deref-2.result.now) (may m) (may n) (asked m) (asked n))
    (StopsIn digest (tile_order 0 index) (HasTile digest 0 index hash) (may c.args.source.now) (may n)
    (asked c.args.source.now) (asked n)) c.audit_leaves.result
    (stops_in digest (bundle ∷ []) (tile ∷ []) [] (tile_order 0 index) (HasTile digest 0 index hash)
    (HasLeavesOf digest index c.deref-2.result.now) (may c.args.source.now) (may m) (may n) (asked c.args.source.now) (asked m)
    (asked n)
    (read_one (may c.args.source.now) (may m) (asked c.args.source.now) (asked m) digest (HasTile digest 0 index hash) bundle
    (Here c.in_ok-bytes.bytes.items) c.in_ok-bytes.ensures.given
    (λ entries t. subst (λ b. IsVerified digest entries bundle (Here b)) c.deref.ensures.value
    (bundle_verified digest g.met.H.TreeHash.digest_length entries index hash bytes row t found)))
    (λ entries h t.
    let due = short_verifies digest g.met.H.TreeHash.digest_length entries h.short index hash h.is_hash bytes
    (c.deref.ensures.value ∙ t.0) in
    c.deref-2.ensures.value ∙ leaves_one digest 256 bytes row _ found.is_row due.is_row)
    (lowest_tile index))
    (c.audit_leaves.ensures.first digest)
