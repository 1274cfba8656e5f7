use Rattle.std.proofs.Common.{◌≡◌, ◌<◌, ℕ, [], length, get_or, ap, refl, sym, subst, ◌∙◌, arith}
use Rattle.tlog_shape.specs.Edge.{width_of}
use Rattle.copy_reader.specs.Edges.{AreRowsGiven}
use Rattle.log_reader.specs.Holding.{IsEdgeRowOf}
use Rattle.log_reader.proofs.TrueReads.{rows_true, source_later}
use Rattle.log_reader.proofs.RowLists.{count_more, items_of, rows_more}
use Rattle.copy_reader.specs.Order.{edge_file, edge_order}
use Rattle.copy_reader.specs.Stops.{AreRowsRead, HasSize}
use Rattle.copy_reader.proofs.Orders.{file_parts}
use Rattle.copy_reader.proofs.RowsGiven.{no_rows, no_rows_read, one_more, one_more_read, rows_paths}
use Rattle.copy_reader.proofs.Stops.{stops_in}
use Rattle.std.proofs.lemmas.Result.{IfOk-from_err}
use Rattle.copy_reader.specs.AuditFaults.{IsForAbsence}
use Rattle.copy_reader.proofs.AuditExits.{blames_exit, err_exit, true_exit}
use Rattle.copy_reader.proofs.LogStops.{absence_before}
use Rattle.copy_reader.proofs.edge_rows.rows_of.Goals as goal

pub loop-level-init : goal.loop-level-init
loop-level-init g c = record {
  counted = refl;
  count = ap length c.new-rows.ensures.items;
  widths = λ k lt. absurd (omega (arith, lt));
  given = no_rows c.args.size c.new-rows.result.items (g.S.Source.may_answer c.args.source.now)
      (g.S.Source.asked c.args.source.now);
  read = no_rows_read c.args.size c.new-rows.result.items (g.S.Source.may_answer c.args.source.now)
      (g.S.Source.asked c.args.source.now);
  honest = λ digest entries hash s same k lt. absurd (omega (arith, lt));
}

pub loop-level-preserved : goal.loop-level-preserved
loop-level-preserved g c =
    let size = c.args.size in
    let n = c.loop-level.level in
    let vs = c.loop-level.rows.items in
    let more = c.push.new.self.items in
    let v = c.in_ok-row.row in
    let may = g.S.Source.may_answer in
    let asked = g.S.Source.asked in
    let i = c.loop-level.invariant in
    let is = c.in_ok-push.ensures.items in
    record {
      counted = c.in_ok-row.ensures.counted ∙ i.counted;
      count = count_more vs more v n is i.count;
      widths = rows_more (λ k row. length row ≡ width_of size k) vs more v n is i.count i.widths
          c.in_ok-row.ensures.given.width_is;
      given = one_more size vs more v n (may c.args.source.now) (may c.loop-level.source) (may c.row_at_level.new.source)
          (asked c.args.source.now) (asked c.loop-level.source) (asked c.row_at_level.new.source) is i.count i.given
          c.in_ok-row.ensures.given;
      read = one_more_read size vs more v n (may c.args.source.now) (may c.loop-level.source) (may c.row_at_level.new.source)
          (asked c.args.source.now) (asked c.loop-level.source) (asked c.row_at_level.new.source) is i.count i.read
          c.in_ok-row.ensures.read;
      honest = λ digest entries hash s same.
          rows_more (λ k row. IsEdgeRowOf digest size k entries row) vs more v n is i.count (i.honest digest entries hash s same)
          (c.in_ok-row.ensures.honest digest entries hash
          (source_later digest entries (may c.args.source.now) (may c.loop-level.source) i.given.given.stays s) same);
    }

pub returns-in_err-row-clause-counted : goal.returns-in_err-row-clause-counted
returns-in_err-row-clause-counted g c =
    let failed = g.S.Source.failed in
    let exit = c.from_residual in
    blames_exit exit.result c.row_at_level.result c.in_err-row.field-0.0 exit.ensures c.in_err-row.was (failed c.args.source.now) (failed c.loop-level.source)
    (failed c.row_at_level.new.source) c.loop-level.invariant.counted c.row_at_level.ensures.counted

pub returns-in_err-row-clause-absent : goal.returns-in_err-row-clause-absent
returns-in_err-row-clause-absent g c =
    let may = g.S.Source.may_answer in
    let exit = c.from_residual in
    err_exit (IsForAbsence (may c.args.source.now)) exit.result c.in_err-row.field-0.0 exit.ensures
    (absence_before (may c.args.source.now) (may c.loop-level.source) c.loop-level.invariant.given.given.stays _
    c.in_err-row.ensures.absent)

pub returns-in_err-row-clause-edge : goal.returns-in_err-row-clause-edge
returns-in_err-row-clause-edge g c = IfOk-from_err c.from_residual.result _ c.from_residual.ensures.0

pub returns-in_err-row-clause-given : goal.returns-in_err-row-clause-given
returns-in_err-row-clause-given g c = IfOk-from_err c.from_residual.result _ c.from_residual.ensures.0

pub returns-in_err-row-clause-read : goal.returns-in_err-row-clause-read
returns-in_err-row-clause-read g c = IfOk-from_err c.from_residual.result _ c.from_residual.ensures.0

pub returns-in_err-row-clause-honest : goal.returns-in_err-row-clause-honest
returns-in_err-row-clause-honest g c = λ digest entries hash s same.
    let may = g.S.Source.may_answer in
    let fault = c.in_err-row.ensures.honest digest entries hash
    (source_later digest entries (may c.args.source.now) (may c.loop-level.source) c.loop-level.invariant.given.given.stays s) same in
    true_exit c.from_residual.result _ c.in_err-row.field-0.0 c.from_residual.ensures fault

pub returns-clause-honest : goal.returns-clause-honest
returns-clause-honest g c = λ digest entries hash s same level low.
    let vs = c.loop-level.rows.items in
    let size = c.args.size in
    let all : c.loop-level.level ≡ 8 = omega arith in
    rows_true digest hash entries size vs c.new.result c.new.ensures.size c.new.ensures.rows
    (subst (λ m. (k : ℕ) → k < m → IsEdgeRowOf digest size k entries (get_or (items_of vs) k [])) all
    (c.loop-level.invariant.honest digest entries hash s same)) level low

pub returns-clause-given : goal.returns-clause-given
returns-clause-given g c =
    let size = c.args.size in
    let vs = c.loop-level.rows.items in
    let a = g.S.Source.may_answer c.args.source.now in
    let b = g.S.Source.may_answer c.loop-level.source in
    let x = g.S.Source.asked c.args.source.now in
    let y = g.S.Source.asked c.loop-level.source in
    let all : c.loop-level.level ≡ 8 = omega arith in
    subst (λ r. AreRowsGiven size (λ level. get_or r level []) 8 a b x y) (sym c.new.ensures.rows)
    (subst (λ n. AreRowsGiven size (λ k. get_or (items_of vs) k []) n a b x y) all c.loop-level.invariant.given)

pub returns-in_err-row-clause-first : goal.returns-in_err-row-clause-first
returns-in_err-row-clause-first g c = λ digest hash.
    let may = g.S.Source.may_answer in
    let asked = g.S.Source.asked in
    let size = c.args.size in
    let n = c.loop-level.level in
    let a = may c.args.source.now in
    let b = may c.loop-level.source in
    let d = may c.row_at_level.new.source in
    let x = asked c.args.source.now in
    let y = asked c.loop-level.source in
    let z = asked c.row_at_level.new.source in
    let parts = file_parts size n c.loop-level-test.true in
    let read = rows_paths digest (HasSize digest size) size (λ k. get_or (items_of c.loop-level.rows.items) k []) n a b x y c.loop-level.invariant.read in
    let stop = stops_in digest (edge_order size n) (edge_file size n) parts.rest (edge_order size 8) (HasSize digest size)
    (HasSize digest size) a b d x y z read (λ entries h t. h) parts.files_are _ (c.in_err-row.ensures.first digest hash) in
    err_exit _ c.from_residual.result c.in_err-row.field-0.0 c.from_residual.ensures stop

pub returns-clause-read : goal.returns-clause-read
returns-clause-read g c =
    let size = c.args.size in
    let vs = c.loop-level.rows.items in
    let a = g.S.Source.may_answer c.args.source.now in
    let b = g.S.Source.may_answer c.loop-level.source in
    let x = g.S.Source.asked c.args.source.now in
    let y = g.S.Source.asked c.loop-level.source in
    let all : c.loop-level.level ≡ 8 = omega arith in
    subst (λ r. AreRowsRead size (λ level. get_or r level []) 8 a b x y) (sym c.new.ensures.rows)
    (subst (λ n. AreRowsRead size (λ k. get_or (items_of vs) k []) n a b x y) all c.loop-level.invariant.read)
