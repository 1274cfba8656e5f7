use Rattle.std.proofs.Common.{List, [], ◌++◌, refl, sym, ap, arith}
use Rattle.std.proofs.lemmas.List.{append-nil}
use Rattle.tlog_tiles.specs.declared.paths.Path.{Path}
use Rattle.log_reader.proofs.TrueReads.{source_later}
use Rattle.copy_reader.proofs.Given.{on_ok}
use Rattle.copy_reader.proofs.Levels.{log_covers}
use Rattle.copy_reader.specs.AuditFaults.{IsFailure, IsForAbsence}
use Rattle.copy_reader.proofs.LogStops.{absence_before}
use Rattle.copy_reader.specs.Order.{below_edge, edge_bundle, levels_order}
use Rattle.copy_reader.specs.Stops.{HasEdge, StopsIn}
use Rattle.copy_reader.proofs.Stops.{on_err, read_none, read_then, stops_in}
use Rattle.copy_reader.proofs.AuditExits.{err_exit}
use Rattle.copy_reader.proofs.log.audit_edge.Goals as goal

pub returns-clause-covers : goal.returns-clause-covers
returns-clause-covers g c =
    let may = g.S.Source.may_answer in
    let asked = g.S.Source.asked in
    on_ok c.audit_edge_bundle.result c.audit_edge_bundle.ensures.covers
    (λ last. log_covers c.args.edge.now c.requires.widths g.H.TreeHash.digest (may c.args.source.now)
    (may c.audit_levels.new.source) (may c.audit_edge_bundle.new.source) (asked c.args.source.now)
    (asked c.audit_levels.new.source) (asked c.audit_edge_bundle.new.source) c.in_ok-audit_levels.ensures.covers last)

pub returns-in_err-audit_levels-clause-honest : goal.returns-in_err-audit_levels-clause-honest
returns-in_err-audit_levels-clause-honest g c = λ entries s size rows.
    let fault = c.in_err-audit_levels.ensures.honest entries s size rows in
    err_exit IsFailure c.from_residual.result c.in_err-audit_levels.field-0.0 c.from_residual.ensures fault

pub returns-clause-honest : goal.returns-clause-honest
returns-clause-honest g c = λ entries s size rows.
    let may = g.S.Source.may_answer in
    c.audit_edge_bundle.ensures.honest entries
    (source_later g.H.TreeHash.digest entries (may c.args.source.now) (may c.audit_levels.new.source)
    c.in_ok-audit_levels.ensures.covers.given.stays s) size (rows 0 (omega arith))

pub returns-clause-read : goal.returns-clause-read
returns-clause-read g c =
    let may = g.S.Source.may_answer in
    let asked = g.S.Source.asked in
    let n = c.args.edge.now.size in
    on_ok c.audit_edge_bundle.result c.audit_edge_bundle.ensures.read
    (λ last. read_then (may c.args.source.now) (may c.audit_levels.new.source) (may c.audit_edge_bundle.new.source)
    (asked c.args.source.now) (asked c.audit_levels.new.source) (asked c.audit_edge_bundle.new.source) g.H.TreeHash.digest
    (HasEdge g.H.TreeHash.digest c.args.edge.now) (HasEdge g.H.TreeHash.digest c.args.edge.now) (levels_order n 7)
    (edge_bundle n) (below_edge n) refl c.in_ok-audit_levels.ensures.read (λ entries h t. h) last)

pub returns-in_err-audit_levels-clause-first : goal.returns-in_err-audit_levels-clause-first
returns-in_err-audit_levels-clause-first g c =
    let digest = g.H.TreeHash.digest in
    let a = g.S.Source.may_answer c.args.source.now in
    let b = g.S.Source.may_answer c.audit_levels.new.source in
    let x = g.S.Source.asked c.args.source.now in
    let y = g.S.Source.asked c.audit_levels.new.source in
    let n = c.args.edge.now.size in
    let has = HasEdge digest c.args.edge.now in
    let stop = stops_in digest [] (levels_order n 7) (edge_bundle n) (below_edge n) has has a a b x x y
    (read_none digest has a x [] refl) (λ entries h t. h) refl _ c.in_err-audit_levels.ensures.first in
    err_exit _ c.from_residual.result c.in_err-audit_levels.field-0.0 c.from_residual.ensures stop

pub returns-clause-first : goal.returns-clause-first
returns-clause-first g c =
    let digest = g.H.TreeHash.digest in
    let a = g.S.Source.may_answer c.args.source.now in
    let b = g.S.Source.may_answer c.audit_levels.new.source in
    let d = g.S.Source.may_answer c.audit_edge_bundle.new.source in
    let x = g.S.Source.asked c.args.source.now in
    let y = g.S.Source.asked c.audit_levels.new.source in
    let z = g.S.Source.asked c.audit_edge_bundle.new.source in
    let n = c.args.edge.now.size in
    let has = HasEdge digest c.args.edge.now in
    on_err (StopsIn digest (edge_bundle n) has b d y z) (StopsIn digest (below_edge n) has a d x z) c.audit_edge_bundle.result
    (stops_in digest (levels_order n 7) (edge_bundle n) [] (below_edge n) has has a b d x y z c.in_ok-audit_levels.ensures.read
    (λ entries h t. h) (ap (λ (l : List Path). levels_order n 7 ++ l) (sym (append-nil (edge_bundle n)))))
    c.audit_edge_bundle.ensures.first

pub returns-clause-absent : goal.returns-clause-absent
returns-clause-absent g c =
    let a = g.S.Source.may_answer c.args.source.now in
    let b = g.S.Source.may_answer c.audit_levels.new.source in
    on_err (IsForAbsence b) (IsForAbsence a) c.audit_edge_bundle.result
    (absence_before a b c.in_ok-audit_levels.ensures.covers.given.stays) c.audit_edge_bundle.ensures.absent
