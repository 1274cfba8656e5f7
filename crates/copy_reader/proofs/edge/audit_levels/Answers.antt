use Rattle.std.proofs.Common.{◌≡◌, ◌+◌, ◌-◌, ◌*◌, ◌^◌, ◌<◌, ℕ, List, length, refl, subst, sym, ap, ◌∙◌, arith}
use Rattle.tlog_shape.specs.Edge.{edge_index_of, width_of}
use Rattle.copy_reader.specs.Covering.{CoversRow}
use Rattle.copy_reader.specs.Edges.{CoversLevels}
use Rattle.copy_reader.proofs.Levels.{levels_first, levels_step, row_small}
use Rattle.log_reader.proofs.TrueReads.{source_later}
use Rattle.copy_reader.proofs.WholeLogs.{edge_row_true}
use Rattle.copy_reader.specs.Order.{level_order, levels_order, row_order}
use Rattle.copy_reader.specs.Stops.{HasEdge, HasRow}
use Rattle.copy_reader.proofs.Orders.{each_none, level_parts, next_level}
use Rattle.copy_reader.proofs.Stops.{read_as, read_none, read_then, stops_in}
use Rattle.std.proofs.lemmas.Result.{IfOk-from_err}
use Rattle.copy_reader.specs.AuditFaults.{IsFailure, IsForAbsence}
use Rattle.copy_reader.proofs.AuditExits.{blames_exit, err_exit}
use Rattle.copy_reader.proofs.LogStops.{absence_before}
use Rattle.copy_reader.proofs.edge.audit_levels.Goals as goal

pub loop-done-init : goal.loop-done-init
loop-done-init g c = record {
  counted = refl;
  covers = levels_first c.args.edge.now c.requires.widths g.H.TreeHash.digest (g.S.Source.may_answer c.args.source.now)
      (g.S.Source.asked c.args.source.now) c.requires.small;
  read = read_none g.H.TreeHash.digest (HasEdge g.H.TreeHash.digest c.args.edge.now) (g.S.Source.may_answer c.args.source.now) (g.S.Source.asked c.args.source.now)
      (levels_order c.args.edge.now.size 0) (each_none (level_order c.args.edge.now.size) 0);
}

pub audit_row-requires-clause-fits : goal.audit_row-requires-clause-fits
audit_row-requires-clause-fits g c =
    let level = 7 - c.loop-done.done in
    let n = c.args.edge.now.size in
    let at : c.edge_index-index.result ≡ edge_index_of n level =
    c.edge_index-index.ensures ∙ ap (λ k. edge_index_of k level) c.size.ensures in
    subst (λ k. (256 * k + length c.row.result.now) * 256 ^ level < 18446744073709551616) (sym at)
    (subst (λ (r : List (List ℕ)). (256 * edge_index_of n level + length r) * 256 ^ level < 18446744073709551616)
    (sym c.row.ensures) (row_small c.args.edge.now c.requires.widths level (omega arith) c.requires.small))

pub loop-done-preserved : goal.loop-done-preserved
loop-done-preserved g c = record {
  counted = c.in_ok-audit_row.ensures.counted ∙ c.loop-done.invariant.counted;
  covers =
      let digest = g.H.TreeHash.digest in
      let edge = c.args.edge.now in
      let a = g.S.Source.may_answer c.args.source.now in
      let b = g.S.Source.may_answer c.loop-done.source in
      let d = g.S.Source.may_answer c.audit_row.new.source in
      let x = g.S.Source.asked c.args.source.now in
      let y = g.S.Source.asked c.loop-done.source in
      let z = g.S.Source.asked c.audit_row.new.source in
      let level = 7 - c.loop-done.done in
      let low = 8 - c.loop-done.done in
      let at : c.edge_index-index.result ≡ edge_index_of edge.size level =
      c.edge_index-index.ensures ∙ ap (λ k. edge_index_of k level) c.size.ensures in
      let placed = subst (λ k. CoversRow digest level k c.row.result.now (length c.row.result.now) b d y z) at
      c.in_ok-audit_row.ensures.covers in
      let rowed = subst (λ r. CoversRow digest level (edge_index_of edge.size level) r (length r) b d y z) c.row.ensures
      placed in
      let next : level ≡ 8 - (c.loop-done.done + 1) = omega arith in
      subst (λ k. CoversLevels digest edge k a d x z) next
      (levels_step edge c.requires.widths digest a b d x y z low level (omega arith) (omega arith) (omega arith)
      c.loop-done.invariant.covers rowed);
  read =
      let n = c.args.edge.now.size in
      let a = g.S.Source.may_answer c.args.source.now in
      let b = g.S.Source.may_answer c.loop-done.source in
      let d = g.S.Source.may_answer c.audit_row.new.source in
      let x = g.S.Source.asked c.args.source.now in
      let y = g.S.Source.asked c.loop-done.source in
      let z = g.S.Source.asked c.audit_row.new.source in
      let done = c.loop-done.done in
      let level = 7 - done in
      let at : c.edge_index-index.result ≡ edge_index_of n level =
      c.edge_index-index.ensures ∙ ap (λ k. edge_index_of k level) c.size.ensures in
      let wide : length c.row.result.now ≡ width_of n level =
      ap length c.row.ensures ∙ c.requires.widths level (omega arith) in
      let digest = g.H.TreeHash.digest in
      let edge = c.args.edge.now in
      let index = c.edge_index-index.result in
      let row = c.row.result.now in
      let inner = HasRow digest level index row in
      read_then a b d x y z digest (HasEdge digest edge) inner (levels_order n done)
      (row_order level (edge_index_of n level) (width_of n level)) (levels_order n (done + 1)) (next_level n done)
      c.loop-done.invariant.read
      (λ entries h t. record {
        short = h.short;
        is_row = edge_row_true digest entries edge level index row h.size_is (h.rows level (omega arith)) c.row.ensures
            (c.requires.widths level (omega arith)) at;
      })
      (read_as b d y z digest inner (row_order level index (length row))
      (row_order level (edge_index_of n level) (width_of n level)) (λ j. row_order level (at j) (wide j))
      c.in_ok-audit_row.ensures.read);
}

pub returns-in_err-audit_row-clause-counted : goal.returns-in_err-audit_row-clause-counted
returns-in_err-audit_row-clause-counted g c =
    let failed = g.S.Source.failed in
    let exit = c.from_residual in
    blames_exit exit.result c.audit_row.result c.in_err-audit_row.field-0.0 exit.ensures c.in_err-audit_row.was (failed c.args.source.now) (failed c.loop-done.source)
    (failed c.audit_row.new.source) c.loop-done.invariant.counted c.audit_row.ensures.counted

pub returns-in_err-audit_row-clause-absent : goal.returns-in_err-audit_row-clause-absent
returns-in_err-audit_row-clause-absent g c =
    let may = g.S.Source.may_answer in
    let exit = c.from_residual in
    err_exit (IsForAbsence (may c.args.source.now)) exit.result c.in_err-audit_row.field-0.0 exit.ensures
    (absence_before (may c.args.source.now) (may c.loop-done.source) c.loop-done.invariant.covers.given.stays _
    c.in_err-audit_row.ensures.absent)

pub returns-in_err-audit_row-clause-covers : goal.returns-in_err-audit_row-clause-covers
returns-in_err-audit_row-clause-covers g c = IfOk-from_err c.from_residual.result _ c.from_residual.ensures.0

pub returns-in_err-audit_row-clause-read : goal.returns-in_err-audit_row-clause-read
returns-in_err-audit_row-clause-read g c = IfOk-from_err c.from_residual.result _ c.from_residual.ensures.0

pub returns-in_err-audit_row-clause-honest : goal.returns-in_err-audit_row-clause-honest
returns-in_err-audit_row-clause-honest g c = λ entries s size rows.
    let digest = g.H.TreeHash.digest in
    let may = g.S.Source.may_answer in
    let edge = c.args.edge.now in
    let level = 7 - c.loop-done.done in
    let later = source_later digest entries (may c.args.source.now) (may c.loop-done.source)
    c.loop-done.invariant.covers.given.stays s in
    let at : c.edge_index-index.result ≡ edge_index_of edge.size level =
    c.edge_index-index.ensures ∙ ap (λ k. edge_index_of k level) c.size.ensures in
    let fault = c.in_err-audit_row.ensures.honest entries later
    (edge_row_true digest entries edge level c.edge_index-index.result c.row.result.now size (rows level (omega arith))
    c.row.ensures (c.requires.widths level (omega arith)) at) in
    err_exit IsFailure c.from_residual.result c.in_err-audit_row.field-0.0 c.from_residual.ensures fault

pub returns-in_err-audit_row-clause-first : goal.returns-in_err-audit_row-clause-first
returns-in_err-audit_row-clause-first g c =
    let digest = g.H.TreeHash.digest in
    let may = g.S.Source.may_answer in
    let asked = g.S.Source.asked in
    let edge = c.args.edge.now in
    let n = edge.size in
    let done = c.loop-done.done in
    let level = 7 - done in
    let index = c.edge_index-index.result in
    let row = c.row.result.now in
    let at : index ≡ edge_index_of n level =
    c.edge_index-index.ensures ∙ ap (λ k. edge_index_of k level) c.size.ensures in
    let wide : length row ≡ width_of n level = ap length c.row.ensures ∙ c.requires.widths level (omega arith) in
    let parts = level_parts n done level index (length row) (omega arith) refl at wide in
    let stop = stops_in digest (levels_order n done) (row_order level index (length row)) parts.rest (levels_order n 7)
    (HasEdge digest edge) (HasRow digest level index row) (may c.args.source.now) (may c.loop-done.source)
    (may c.audit_row.new.source) (asked c.args.source.now) (asked c.loop-done.source) (asked c.audit_row.new.source)
    c.loop-done.invariant.read
    (λ entries h t. record {
      short = h.short;
      is_row = edge_row_true digest entries edge level index row h.size_is (h.rows level (omega arith)) c.row.ensures
          (c.requires.widths level (omega arith)) at;
    })
    parts.levels_are _ c.in_err-audit_row.ensures.first in
    err_exit _ c.from_residual.result c.in_err-audit_row.field-0.0 c.from_residual.ensures stop
