use Rattle.std.proofs.Common.{◌∙◌, refl, ap, map, length, arith, take, ◌+◌}
use Rattle.tlog_tiles.specs.Edge.{edge_of}
use Rattle.mirror_pull.proofs.TrueRows.{row_reached, rows_step, rows_none, rows_whole, edge_tile, source_stays}
use Rattle.std.proofs.lemmas.Result.{err_from_is_err_and}
use Rattle.mirror_pull.proofs.Askings.{adds_some_then, adds_to_then, adds_to_none, some_of}
use Rattle.mirror_pull.proofs.Gains.{stays_then, stays_itself, counts_err}
use Rattle.std.proofs.Common.{List, [], subst}
use Rattle.std.proofs.lemmas.List.{take_all}
use Rattle.tlog_tiles.specs.declared.paths.Path.{Path}
use Rattle.std.proofs.Common.{None}
use Rattle.mirror_pull.specs.Replying.{GivesRows, RowsNone, GivesNoRows, IsInRows, IsUnanswered, MemoryRefused}
use Rattle.mirror_pull.proofs.Early.{ends_then, ends_behind, ends_none, unanswered_then, in_rows, in_rows_after}
use Rattle.mirror_pull.proofs.Early.{in_rows_none}
use Rattle.mirror_pull.proofs.Replies.{gathers_as, gathers_then, gathers_none, edge_step, no_rows, memory_no_edge}
use Rattle.mirror_pull.proofs.edge.edge_rows.Goals as goal

pub returns-in_err-row-clause-recorded : goal.returns-in_err-row-clause-recorded
returns-in_err-row-clause-recorded g c =
    let asked = g.S.Source.asked in
    let p = err_from_is_err_and c.from_residual-in_err-row.result c.from_residual-in_err-row.ensures.1 in
    rw p.1 (adds_some_then c.args.asked.now.items c.loop-path.asked.items (asked c.args.source.now)
    (asked c.loop-path.source) (asked c.edge_row.new.source) c.loop-path.invariant.recorded c.in_err-row.ensures.recorded)

pub returns-in_err-row-clause-counted : goal.returns-in_err-row-clause-counted
returns-in_err-row-clause-counted g c =
    let failed = g.S.Source.failed in
    let p = err_from_is_err_and c.from_residual-in_err-row.result c.from_residual-in_err-row.ensures.1 in
    rw (p.1, p.2)
    (counts_err (failed c.args.source.now) (failed c.loop-path.source)
    (failed c.edge_row.new.source) c.in_err-row.field-0.0 c.loop-path.invariant.counted c.in_err-row.ensures.counted)

pub returns-in_err-row-clause-later : goal.returns-in_err-row-clause-later
returns-in_err-row-clause-later g c =
    let may = g.S.Source.may_answer in
    stays_then (may c.args.source.now) (may c.loop-path.source)
    (may c.edge_row.new.source) c.loop-path.invariant.later c.in_err-row.ensures.later

pub returns-in_err-row-clause-early : goal.returns-in_err-row-clause-early
returns-in_err-row-clause-early g c =
    let p = err_from_is_err_and c.from_residual-in_err-row.result c.from_residual-in_err-row.ensures.1 in rw
    (p.1, p.2) c.in_err-row.ensures.early

pub loop-path-preserved : goal.loop-path-preserved
loop-path-preserved g c =
    let asked = g.S.Source.asked in
    let may = g.S.Source.may_answer in
    record {
      recorded = adds_to_then c.args.asked.now.items c.loop-path.asked.items c.edge_row.new.asked.items
          (asked c.args.source.now) (asked c.loop-path.source)
          (asked c.edge_row.new.source) c.loop-path.invariant.recorded c.in_ok-row.ensures.recorded;
      counted = c.in_ok-row.ensures.counted ∙ c.loop-path.invariant.counted;
      replied = gathers_then
          (λ xs. GivesRows c.args.asked.now.items (take (c.loop-path.path-index + 1) (edge_of c.args.size)) xs
          (map (λ row. row.items) c.push.new.self.items)) c.loop-path.invariant.later c.loop-path.invariant.replied
          c.in_ok-row.ensures.replied
          (λ xs ys grown list p q. edge_step (λ row. row.items) c.args.asked.now.items c.deref-path-items.result.now
          (edge_of c.args.size) c.loop-path.path-index c.loop-path.asked.items xs ys c.loop-path.rows.items
          c.push.new.self.items c.in_ok-row.row c.in_ok-push.ensures.items
          (c.deref-path-items.ensures.value ∙ c.in_ok-paths.ensures) c.loop-path-test.true grown p q);
      honest = λ digest entries is within fresh.
          rows_step digest entries (λ row. row.items) (may c.args.source.now)
          (may c.loop-path.source) c.deref-path-items.result.now
          (edge_of c.args.size) c.args.asked.now.items c.loop-path.asked.items c.edge_row.new.asked.items
          c.loop-path.path-index c.loop-path.rows.items c.push.new.self.items c.in_ok-row.row
          c.loop-path.invariant.later (c.deref-path-items.ensures.value ∙ c.in_ok-paths.ensures)
          c.loop-path-test.true fresh (edge_tile c.args.size (length entries) within) c.in_ok-push.ensures.items
          (c.loop-path.invariant.honest digest entries is within fresh)
          (c.in_ok-row.ensures.honest digest entries
          (source_stays digest entries (may c.args.source.now)
          (may c.loop-path.source) c.loop-path.invariant.later is));
      later = stays_then (may c.args.source.now) (may c.loop-path.source)
          (may c.edge_row.new.source) c.loop-path.invariant.later c.in_ok-row.ensures.later;
    }

pub loop-path-init : goal.loop-path-init
loop-path-init g c =
    record {
      recorded = rw c.expect.ensures.recorded (adds_to_none c.args.asked.now.items (g.S.Source.asked c.args.source.now));
      counted = c.expect.ensures.counted;
      replied = rw (c.expect.ensures.recorded, ap (map (λ row. row.items)) c.new-rows.ensures.items)
          (gathers_none (g.S.Source.may_answer c.args.source.now) (g.S.Source.asked c.args.source.now)
          c.args.asked.now.items (λ xs. GivesRows c.args.asked.now.items [] xs []) RowsNone);
      honest = λ digest entries is within fresh. rw (ap (map (λ row. row.items)) c.new-rows.ensures.items)
          (rows_none digest entries (g.S.Source.may_answer c.args.source.now) c.args.asked.now.items);
      later = c.expect.ensures.later;
    }

pub returns-in_err-push-clause-recorded : goal.returns-in_err-push-clause-recorded
returns-in_err-push-clause-recorded g c =
    let asked = g.S.Source.asked in
    let p = err_from_is_err_and c.from_residual-in_err-push.result c.from_residual-in_err-push.ensures.1 in
    rw p.1 (some_of c.args.asked.now.items c.edge_row.new.asked.items (asked c.args.source.now)
    (asked c.edge_row.new.source)
    (adds_to_then c.args.asked.now.items c.loop-path.asked.items c.edge_row.new.asked.items
    (asked c.args.source.now) (asked c.loop-path.source)
    (asked c.edge_row.new.source) c.loop-path.invariant.recorded c.in_ok-row.ensures.recorded))

pub returns-in_err-row-clause-honest : goal.returns-in_err-row-clause-honest
returns-in_err-row-clause-honest g c =
    let may = g.S.Source.may_answer in
    let p = err_from_is_err_and c.from_residual-in_err-row.result c.from_residual-in_err-row.ensures.1 in
    rw (p.1, p.2) (λ digest entries is within fresh.
    row_reached digest entries (may c.args.source.now) c.deref-path-items.result.now
    (edge_of c.args.size) c.args.asked.now.items c.loop-path.asked.items c.loop-path.path-index
    (map (λ row. row.items) c.loop-path.rows.items)
    (c.deref-path-items.ensures.value ∙ c.in_ok-paths.ensures) c.loop-path-test.true fresh
    (edge_tile c.args.size (length entries) within) (c.loop-path.invariant.honest digest entries is within fresh)
    (c.in_err-row.ensures.honest digest entries
    (source_stays digest entries (may c.args.source.now) (may c.loop-path.source) c.loop-path.invariant.later is)))

pub returns-clause-honest : goal.returns-clause-honest
returns-clause-honest g c =
    λ digest entries is within fresh. let e = c.deref-path-items.ensures.value ∙ c.in_ok-paths.ensures in
    rows_whole digest entries (g.S.Source.may_answer c.args.source.now)
    (edge_of c.args.size) c.args.asked.now.items c.loop-path.asked.items c.loop-path.path-index _
    (omega (arith, ap length e, c.loop-path-test.false))
    (c.loop-path.invariant.honest digest entries is within fresh)

pub returns-clause-counted : goal.returns-clause-counted
returns-clause-counted g c = c.loop-path.invariant.counted

pub returns-clause-later : goal.returns-clause-later
returns-clause-later g c = c.loop-path.invariant.later

pub returns-clause-recorded : goal.returns-clause-recorded
returns-clause-recorded g c = c.loop-path.invariant.recorded

pub returns-clause-early : goal.returns-clause-early
returns-clause-early g c = tt

pub returns-in_err-push-clause-counted : goal.returns-in_err-push-clause-counted
returns-in_err-push-clause-counted g c =
    let p = err_from_is_err_and c.from_residual-in_err-push.result c.from_residual-in_err-push.ensures.1 in
    rw (p.1, p.2) (c.in_ok-row.ensures.counted ∙ c.loop-path.invariant.counted)

pub returns-in_err-push-clause-early : goal.returns-in_err-push-clause-early
returns-in_err-push-clause-early g c =
    let p = err_from_is_err_and c.from_residual-in_err-push.result c.from_residual-in_err-push.ensures.1 in
    rw (p.1, p.2) tt

pub returns-in_err-push-clause-later : goal.returns-in_err-push-clause-later
returns-in_err-push-clause-later g c =
    let may = g.S.Source.may_answer in
    stays_then (may c.args.source.now) (may c.loop-path.source) (may c.edge_row.new.source) c.loop-path.invariant.later
    c.in_ok-row.ensures.later

pub returns-in_err-paths-clause-counted : goal.returns-in_err-paths-clause-counted
returns-in_err-paths-clause-counted g c =
    let p = err_from_is_err_and c.from_residual.result c.from_residual.ensures.1 in
    rw (p.1, p.2) refl

pub returns-in_err-paths-clause-early : goal.returns-in_err-paths-clause-early
returns-in_err-paths-clause-early g c =
    let p = err_from_is_err_and c.from_residual.result c.from_residual.ensures.1 in
    rw (p.1, p.2) tt

pub returns-in_err-paths-clause-later : goal.returns-in_err-paths-clause-later
returns-in_err-paths-clause-later g c = stays_itself (g.S.Source.may_answer c.args.source.now)

pub returns-clause-replied : goal.returns-clause-replied
returns-clause-replied g c =
    let e = c.deref-path-items.ensures.value ∙ c.in_ok-paths.ensures in
    gathers_as c.loop-path.invariant.replied (λ xs list p.
    subst (λ (l : List Path). GivesRows c.args.asked.now.items l xs (map (λ row. row.items) c.loop-path.rows.items))
    (take_all c.loop-path.path-index (edge_of c.args.size) (omega (arith, ap length e, c.loop-path-test.false))) p)

pub returns-in_err-row-clause-replied : goal.returns-in_err-row-clause-replied
returns-in_err-row-clause-replied g c =
    let p = err_from_is_err_and c.from_residual-in_err-row.result c.from_residual-in_err-row.ensures.1 in
    let before = c.args.asked.now.items in
    let ps = edge_of c.args.size in
    let qs = c.deref-path-items.result.now in
    let i = c.loop-path.path-index in
    let mid = c.loop-path.asked.items in
    let rows = map (λ row. row.items) c.loop-path.rows.items in
    let same = c.deref-path-items.ensures.value ∙ c.in_ok-paths.ensures in
    rw (p.1, p.2) (
      λ e. gathers_then (GivesNoRows before ps) c.loop-path.invariant.later c.loop-path.invariant.replied
          (c.in_err-row.ensures.replied.0 e)
          (λ xs ys grown list a b. no_rows before qs ps i mid xs ys rows same c.loop-path-test.true grown a b),
      λ other. ends_then (IsUnanswered (IsInRows before ps) c.in_err-row.field-0.0) c.loop-path.invariant.later
          c.loop-path.invariant.replied (c.in_err-row.ensures.replied.1 other)
          (λ xs ys tried grown a u. unanswered_then xs (λ rs next q.
          in_rows before qs ps i mid xs rs rows same c.loop-path-test.true grown a next q) u),
    )

pub returns-in_err-push-clause-replied : goal.returns-in_err-push-clause-replied
returns-in_err-push-clause-replied g c =
    let p = err_from_is_err_and c.from_residual-in_err-push.result c.from_residual-in_err-push.ensures.1 in
    let before = c.args.asked.now.items in
    let ps = edge_of c.args.size in
    let qs = c.deref-path-items.result.now in
    let i = c.loop-path.path-index in
    let mid = c.loop-path.asked.items in
    let rows = map (λ row. row.items) c.loop-path.rows.items in
    let same = c.deref-path-items.ensures.value ∙ c.in_ok-paths.ensures in
    rw (p.1, p.2) (
      λ e. absurd (memory_no_edge e),
      λ other. ends_behind
          (gathers_then (λ xs. IsInRows before ps xs None) c.loop-path.invariant.later c.loop-path.invariant.replied
          c.in_ok-row.ensures.replied
          (λ xs ys grown list a b. in_rows_after before qs ps i mid xs ys rows same c.loop-path-test.true grown a _ b))
          (λ xs list a. MemoryRefused {next = None} a),
    )

pub returns-in_err-paths-clause-replied : goal.returns-in_err-paths-clause-replied
returns-in_err-paths-clause-replied g c =
    let p = err_from_is_err_and c.from_residual.result c.from_residual.ensures.1 in
    rw (p.1, p.2) (
      λ e. absurd (memory_no_edge e),
      λ other. ends_none (g.S.Source.asked c.args.source.now)
          (MemoryRefused {next = None} (in_rows_none c.args.asked.now.items (edge_of c.args.size))),
    )
