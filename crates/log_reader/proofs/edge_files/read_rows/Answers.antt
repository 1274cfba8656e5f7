use Rattle.std.proofs.Common.{◌≡◌, ◌<◌, ℕ, List, [], ap, get_or, subst, sym, ◌∙◌, arith}
use Rattle.tlog_shape.specs.Edge.{width_of}
use Rattle.log_reader.specs.Holding.{IsEdgeRowOf}
use Rattle.log_reader.specs.Ways.{AreHashesOf}
use Rattle.log_reader.proofs.Exits.{counted_exit, failed_exit}
use Rattle.log_reader.proofs.Kept.{kept_twice, stays_twice}
use Rattle.std.proofs.lemmas.Result.{IfOk-from_err}
use Rattle.log_reader.proofs.RowLists.{count_more, items_of, rows_more}
use Rattle.log_reader.proofs.TrueReads.{rows_true, source_later}
use Rattle.log_reader.proofs.FalseEdges.{parts_before, row_before}
use Rattle.log_reader.proofs.FalseFiles.{names_exit}
use Rattle.log_reader.specs.FalseEdges.{IsRowGiven, NamesFalsePart}
use Rattle.log_reader.proofs.edge_files.read_rows.Goals as goal

pub returns-in_err-read_edge_row : goal.returns-in_err-read_edge_row
returns-in_err-read_edge_row g c =
    let files = g.S.Source.files in
    let failed = g.S.Source.failed in
    let exit = c.from_residual in
    let i = c.loop-level.invariant in
    let step = c.in_err-read_edge_row.ensures in
    let fault = c.in_err-read_edge_row.field-0.0 in
    record {
      size = IfOk-from_err exit.result _ exit.ensures.0;
      rows = IfOk-from_err exit.result _ exit.ensures.0;
      got = IfOk-from_err exit.result _ exit.ensures.0;
      later = stays_twice i.later step.later;
      kept = kept_twice (files c.args.source.now) (files c.loop-level.source) (files c.read_edge_row.new.source) i.kept step.kept;
      counted = counted_exit exit.result c.read_edge_row.result fault exit.ensures c.in_err-read_edge_row.was
          (failed c.args.source.now) (failed c.loop-level.source) (failed c.read_edge_row.new.source) i.counted
          c.read_edge_row.ensures.counted;
      names = names_exit (NamesFalsePart (g.S.Source.may_answer c.args.source.now) c.args.size) exit.result fault exit.ensures
          (parts_before (g.S.Source.may_answer c.args.source.now) (g.S.Source.may_answer c.loop-level.source) i.later c.args.size fault
          step.names);
      honest = λ entries same s. failed_exit exit.result _ fault exit.ensures (step.honest entries same
          (source_later g.H.TreeHash.digest entries (g.S.Source.may_answer c.args.source.now)
          (g.S.Source.may_answer c.loop-level.source) i.later s));
    }

pub loop-level-preserved : goal.loop-level-preserved
loop-level-preserved g c =
    let size = c.args.size in
    let n = c.loop-level.level in
    let vs = c.loop-level.rows.items in
    let more = c.push.new.self.items in
    let v = c.in_ok-read_edge_row.field-0 in
    let files = g.S.Source.files in
    let may = g.S.Source.may_answer in
    let i = c.loop-level.invariant in
    let step = c.in_ok-read_edge_row.ensures in
    let is = c.in_ok-push.ensures.items in
    record {
      later = record { stays = λ path answer m. i.later.stays path answer (step.later.stays path answer m) };
      kept = kept_twice (files c.args.source.now) (files c.loop-level.source) (files c.read_edge_row.new.source) i.kept step.kept;
      counted = step.counted ∙ i.counted;
      count = count_more vs more v n is i.count;
      widths = rows_more (λ k row. AreHashesOf (width_of size k) row) vs more v n is i.count i.widths step.row;
      got = rows_more (λ k row. 0 < width_of size k → IsRowGiven (may c.args.source.now) size k row) vs more v n is i.count i.got
          (λ some. row_before (may c.args.source.now) (may c.loop-level.source) i.later size n some v.items (step.got some));
      honest = λ entries same s.
          rows_more (λ k row. IsEdgeRowOf g.H.TreeHash.digest size k entries row) vs more v n is i.count (i.honest entries same s)
          (step.honest entries same
          (source_later g.H.TreeHash.digest entries (may c.args.source.now) (may c.loop-level.source) i.later s));
    }

pub returns-clause-honest : goal.returns-clause-honest
returns-clause-honest g c = λ entries same s level low.
    let vs = c.loop-level.rows.items in
    let all : c.loop-level.level ≡ 8 = omega arith in
    rows_true g.H.TreeHash.digest g.met.H.TreeHash.digest_length entries c.args.size vs c.new.result c.new.ensures.size
    c.new.ensures.rows
    (subst (λ n. (k : ℕ) → k < n → IsEdgeRowOf g.H.TreeHash.digest c.args.size k entries (get_or (items_of vs) k [])) all
    (c.loop-level.invariant.honest entries same s)) level low

pub returns-clause-got : goal.returns-clause-got
returns-clause-got g c = λ level low some.
    let may = g.S.Source.may_answer c.args.source.now in
    let size = c.args.size in
    let vs = c.loop-level.rows.items in
    let all : c.loop-level.level ≡ 8 = omega arith in
    let given = c.loop-level.invariant.got level (omega (arith, all, low)) some in
    subst (IsRowGiven may size level)
    (ap (λ (r : List (List (List ℕ))). get_or r level []) (sym c.new.ensures.rows)) given
