use Rattle.std.proofs.Common.{◌≤◌, [], ◌∷◌, length, refl, sym, ap, subst, ◌∙◌, arith}
use Rattle.mirror_sources.specs.Files.{width_named}
use Rattle.mirror_sources.specs.Honest.{true_bytes}
use Rattle.log_reader.specs.Holding.{IsTreeFile}
use Rattle.log_reader.proofs.TrueReads.{full_tile, row_is_true, tile_verifies}
use Rattle.copy_reader.specs.Found.{Here, IsPresent}
use Rattle.copy_reader.specs.Stops.{HasTile}
use Rattle.copy_reader.proofs.Stops.{lacks_first, stops_here}
use Rattle.copy_reader.proofs.AuditExits.{err_exit, true_exit}
use Rattle.copy_reader.proofs.tiles.row_of.Goals as goal

pub returns-in_err-bytes-clause-honest : goal.returns-in_err-bytes-clause-honest
returns-in_err-bytes-clause-honest g c = λ entries level index at s t.
    let file = subst (IsTreeFile (length entries)) (sym at) (full_tile (length entries) level index t.low t.fits) in
    let wide = subst (λ p. 256 ≤ width_named p) (sym at) (omega arith) in
    let fault = c.in_err-bytes.ensures.honest g.H.TreeHash.digest entries s file wide in
    true_exit c.from_residual.result _ c.in_err-bytes.field-0.0 c.from_residual.ensures fault

pub returns-in-Some-clause-honest : goal.returns-in-Some-clause-honest
returns-in-Some-clause-honest g c = λ entries level index at s t.
    let digest = g.H.TreeHash.digest in
    let file = subst (IsTreeFile (length entries)) (sym at) (full_tile (length entries) level index t.low t.fits) in
    let wide = subst (λ p. 256 ≤ width_named p) (sym at) (omega arith) in
    let is = c.in_ok-bytes.ensures.honest digest entries s file wide ∙ ap (true_bytes digest entries) at in
    row_is_true digest g.met.H.TreeHash.digest_length entries level index 256 c.deref.result.now c.in-Some.row.items
    (c.deref.ensures.value ∙ is) (rw c.in-Some.is at c.in_ok-row.ensures.found).is_row

pub returns-clause-honest : goal.returns-clause-honest
returns-clause-honest g c = λ entries level index at s t.
    let digest = g.H.TreeHash.digest in
    let file = subst (IsTreeFile (length entries)) (sym at) (full_tile (length entries) level index t.low t.fits) in
    let wide = subst (λ p. 256 ≤ width_named p) (sym at) (omega arith) in
    let is = c.in_ok-bytes.ensures.honest digest entries s file wide ∙ ap (true_bytes digest entries) at in
    absurd ((rw c.in-None.is at c.in_ok-row.ensures.none) _
    (tile_verifies digest g.met.H.TreeHash.digest_length entries level index c.args.hash.now c.deref.result.now t
    (c.deref.ensures.value ∙ is)))

pub returns-in_err-bytes-clause-first : goal.returns-in_err-bytes-clause-first
returns-in_err-bytes-clause-first g c = λ level index at.
    let stop = lacks_first g.H.TreeHash.digest (c.args.path ∷ []) (HasTile g.H.TreeHash.digest level index c.args.hash.now)
    (g.S.Source.may_answer c.args.source.now) (g.S.Source.may_answer c.get_file.new.source)
    (g.S.Source.asked c.args.source.now) (g.S.Source.asked c.get_file.new.source) c.args.path [] refl c.requires _
    c.in_err-bytes.ensures.missing in
    err_exit _ c.from_residual.result c.in_err-bytes.field-0.0 c.from_residual.ensures stop

pub returns-clause-first : goal.returns-clause-first
returns-clause-first g c = λ level index at.
    let digest = g.H.TreeHash.digest in
    stops_here digest (c.args.path ∷ []) (HasTile digest level index c.args.hash.now)
    (g.S.Source.may_answer c.args.source.now) (g.S.Source.may_answer c.get_file.new.source)
    (g.S.Source.asked c.args.source.now) (g.S.Source.asked c.get_file.new.source) IsPresent c.args.path
    (Here c.in_ok-bytes.bytes.items) [] refl c.in_ok-bytes.ensures.given tt
    (λ entries h is. (rw c.in-None.is at c.in_ok-row.ensures.none) _
    (tile_verifies digest g.met.H.TreeHash.digest_length entries level index c.args.hash.now c.deref.result.now h.is_hash
    (c.deref.ensures.value ∙ (is ∙ ap (true_bytes digest entries) at))))
