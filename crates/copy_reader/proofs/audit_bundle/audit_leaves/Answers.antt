use Rattle.std.proofs.Common.{[], ◌∷◌, length, refl, sym, ap, ◌∙◌, arith}
use Rattle.std.proofs.lemmas.Bool.{false≢true}
use Rattle.tlog_tiles.specs.Row.{row_text}
use Rattle.log_reader.proofs.TrueReads.{full_tile}
use Rattle.tlog_tiles.specs.declared.paths.Path.TheVariants.{Tile}
use Rattle.copy_reader.specs.Found.{Here, IsPresent}
use Rattle.copy_reader.specs.Stops.{HasLeavesOf}
use Rattle.copy_reader.proofs.Stops.{lacks_first, stops_here}
use Rattle.copy_reader.specs.AuditFaults.{IsFailure}
use Rattle.copy_reader.proofs.AuditExits.{err_exit}
use Rattle.copy_reader.proofs.audit_bundle.audit_leaves.Goals as goal

pub returns-in_err-bytes-clause-honest : goal.returns-in_err-bytes-clause-honest
returns-in_err-bytes-clause-honest g c = λ digest entries s fits row.
    let fault = c.in_err-bytes.ensures.honest digest entries s
    (full_tile (length entries) 0 c.args.index (omega arith) fits) (omega arith) in
    err_exit IsFailure c.from_residual.result c.in_err-bytes.field-0.0 c.from_residual.ensures fault

pub returns-clause-honest : goal.returns-clause-honest
returns-clause-honest g c = λ digest entries s fits row.
    let is = c.in_ok-bytes.ensures.honest digest entries s
    (full_tile (length entries) 0 c.args.index (omega arith) fits) (omega arith) in
    absurd (false≢true (sym c.if-is_text_of.false
    ∙ c.is_text_of.ensures.1 (c.deref.ensures.value ∙ (is ∙ sym (ap row_text row)))))

pub returns-in_err-bytes-clause-first : goal.returns-in_err-bytes-clause-first
returns-in_err-bytes-clause-first g c = λ digest.
    let path = Tile 0 c.args.index 256 in
    let stop = lacks_first digest (path ∷ []) (HasLeavesOf digest c.args.index c.args.row.now)
    (g.S.Source.may_answer c.args.source.now) (g.S.Source.may_answer c.get_file.new.source)
    (g.S.Source.asked c.args.source.now) (g.S.Source.asked c.get_file.new.source) path [] refl refl _
    c.in_err-bytes.ensures.missing in
    err_exit _ c.from_residual.result c.in_err-bytes.field-0.0 c.from_residual.ensures stop

pub returns-clause-first : goal.returns-clause-first
returns-clause-first g c = λ digest.
    let path = Tile 0 c.args.index 256 in
    let bytes = c.in_ok-bytes.bytes.items in
    stops_here digest (path ∷ []) (HasLeavesOf digest c.args.index c.args.row.now)
    (g.S.Source.may_answer c.args.source.now) (g.S.Source.may_answer c.get_file.new.source)
    (g.S.Source.asked c.args.source.now) (g.S.Source.asked c.get_file.new.source) IsPresent path (Here bytes) [] refl
    c.in_ok-bytes.ensures.given tt
    (λ entries row is. absurd (false≢true (sym c.if-is_text_of.false
    ∙ c.is_text_of.ensures.1 (c.deref.ensures.value ∙ (is ∙ sym (ap row_text row))))))
