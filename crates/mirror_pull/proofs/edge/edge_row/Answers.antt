use Rattle.std.proofs.Common.{◌≡◌, ◌∙◌, subst, length, Some, None, refl}
use Rattle.tlog_tiles.specs.declared.paths.Path.{Path}
use Rattle.mirror_sources.specs.Files.{full_of}
use Rattle.std.proofs.lemmas.Result.{err_from_is_err_and}
use Rattle.mirror_pull.proofs.Askings.{adds_some_then, adds_to_then, some_of}
use Rattle.mirror_pull.proofs.Freshness.{fresh_unasked, gone_partial}
use Rattle.mirror_pull.proofs.Gains.{counts_err, outside, stays_then}
use Rattle.mirror_pull.proofs.TrueRows.{source_stays, full_fresh, row_found as true_row, row_full}
use Rattle.mirror_pull.proofs.TrueRows.{is_gone, full_answers, full_length, gets_full, tile_within}
use Rattle.std.proofs.Common.{sym, ap, option_map}
use Rattle.mirror_pull.proofs.Replies.{row_cut, row_none, row_found, not_edge, never_none, some_same}
use Rattle.mirror_pull.proofs.Early.{ends_as, unanswered_as, comes_first, row_unanswered}
use Rattle.mirror_pull.proofs.edge.edge_row.Goals as goal

pub returns-in_err-bytes-2-clause-recorded : goal.returns-in_err-bytes-2-clause-recorded
returns-in_err-bytes-2-clause-recorded g c =
    let asked = g.S.Source.asked in
    let p = err_from_is_err_and c.from_residual-in_err-bytes-2.result c.from_residual-in_err-bytes-2.ensures.1 in
    rw p.1 (adds_some_then c.args.asked.now.items c.ask.new.asked.items (asked c.args.source.now)
    (asked c.ask.new.source) (asked c.ask-2.new.source) c.in_ok-bytes.ensures.recorded c.in_err-bytes-2.ensures.recorded)

pub returns-in_err-bytes-clause-early : goal.returns-in_err-bytes-clause-early
returns-in_err-bytes-clause-early g c =
    let p = err_from_is_err_and c.from_residual.result c.from_residual.ensures.1 in rw
    (p.1, p.2) c.in_err-bytes.ensures.early

pub returns-in_err-bytes-2-clause-early : goal.returns-in_err-bytes-2-clause-early
returns-in_err-bytes-2-clause-early g c =
    let p = err_from_is_err_and c.from_residual-in_err-bytes-2.result c.from_residual-in_err-bytes-2.ensures.1 in rw
    (p.1, p.2) c.in_err-bytes-2.ensures.early

pub returns-in_default-2-clause-recorded : goal.returns-in_default-2-clause-recorded
returns-in_default-2-clause-recorded g c =
    let asked = g.S.Source.asked in
    some_of _ _ _ _
    (adds_to_then c.args.asked.now.items c.ask.new.asked.items c.ask-2.new.asked.items (asked c.args.source.now)
    (asked c.ask.new.source) (asked c.ask-2.new.source) c.in_ok-bytes.ensures.recorded c.in_ok-bytes-2.ensures.recorded)

pub returns-then-len-ne-FULL_TILE-clause-recorded : goal.returns-then-len-ne-FULL_TILE-clause-recorded
returns-then-len-ne-FULL_TILE-clause-recorded g c =
    let asked = g.S.Source.asked in
    some_of _ _ _ _
    (adds_to_then c.args.asked.now.items c.ask.new.asked.items c.ask-2.new.asked.items (asked c.args.source.now)
    (asked c.ask.new.source) (asked c.ask-2.new.source) c.in_ok-bytes.ensures.recorded c.in_ok-bytes-2.ensures.recorded)

pub returns-clause-recorded : goal.returns-clause-recorded
returns-clause-recorded g c =
    let asked = g.S.Source.asked in
    adds_to_then c.args.asked.now.items c.ask.new.asked.items c.ask-2.new.asked.items (asked c.args.source.now)
    (asked c.ask.new.source) (asked c.ask-2.new.source) c.in_ok-bytes.ensures.recorded c.in_ok-bytes-2.ensures.recorded

pub returns-in-Some-clause-honest : goal.returns-in-Some-clause-honest
returns-in-Some-clause-honest g c =
    λ digest entries is tile fresh.
    let unasked = fresh_unasked c.args.asked.now.items c.args.path fresh in
    let answer = rw c.in-Some.is at (c.in_ok-bytes.ensures.answer unasked) in
    true_row digest entries
    (g.S.Source.may_answer c.args.source.now) is c.args.path c.args.asked.now.items c.ask.new.asked.items
    c.in-Some.bytes.items tile answer (c.in_ok-bytes.ensures.grown unasked)

pub returns-clause-honest : goal.returns-clause-honest
returns-clause-honest g c =
    λ digest entries is tile fresh.
    let may = g.S.Source.may_answer c.ask.new.source in
    let unasked = fresh_unasked c.args.asked.now.items c.args.path fresh in
    let grown = c.in_ok-bytes.ensures.grown unasked in
    let none = rw c.in_default.is at (c.in_ok-bytes.ensures.answer unasked) in
    let gone =
    is_gone digest entries (g.S.Source.may_answer c.args.source.now) is c.args.path
    (tile_within (length entries) c.args.path tile) none in
    let next =
    source_stays digest entries (g.S.Source.may_answer c.args.source.now) may c.in_ok-bytes.ensures.later is in
    let full =
    full_fresh c.args.path c.full.result c.args.asked.now.items c.ask.new.asked.items c.full.ensures
    (gone_partial (length entries) c.args.path gone) grown fresh in
    let answer : may c.full.result (Some c.in-Some-2.bytes.items) =
    rw c.in-Some-2.is at (c.in_ok-bytes-2.ensures.answer full) in
    let there : may (full_of c.args.path) (Some c.in-Some-2.bytes.items) =
    subst (λ (q : Path). may q (Some c.in-Some-2.bytes.items)) c.full.ensures answer in
    record {
      bytes_are =
          rw c.width.ensures at c.truncate.ensures.items ∙
          row_full digest entries may next c.args.path c.in-Some-2.bytes.items tile gone there;
      gets = gets_full digest entries (g.S.Source.may_answer c.args.source.now) is may c.args.path c.full.result
          c.in-Some-2.bytes.items c.args.asked.now.items
          c.ask.new.asked.items c.ask-2.new.asked.items c.in_ok-bytes.ensures.later gone none there c.full.ensures
          grown (c.in_ok-bytes-2.ensures.grown full);
    }

pub returns-in_default-2-clause-honest : goal.returns-in_default-2-clause-honest
returns-in_default-2-clause-honest g c =
    λ digest entries is tile fresh.
    let may = g.S.Source.may_answer c.ask.new.source in
    let unasked = fresh_unasked c.args.asked.now.items c.args.path fresh in
    let grown = c.in_ok-bytes.ensures.grown unasked in
    let none = rw c.in_default.is at (c.in_ok-bytes.ensures.answer unasked) in
    let gone =
    is_gone digest entries (g.S.Source.may_answer c.args.source.now) is c.args.path
    (tile_within (length entries) c.args.path tile) none in
    let next =
    source_stays digest entries (g.S.Source.may_answer c.args.source.now) may c.in_ok-bytes.ensures.later is in
    let full =
    full_fresh c.args.path c.full.result c.args.asked.now.items c.ask.new.asked.items c.full.ensures
    (gone_partial (length entries) c.args.path gone) grown fresh in
    let answer : may c.full.result None = rw c.in_default-2.is at (c.in_ok-bytes-2.ensures.answer full) in
    absurd (full_answers digest entries may next c.args.path gone
    (subst (λ (q : Path). may q None) c.full.ensures answer))

pub returns-then-len-ne-FULL_TILE-clause-honest : goal.returns-then-len-ne-FULL_TILE-clause-honest
returns-then-len-ne-FULL_TILE-clause-honest g c =
    λ digest entries is tile fresh.
    let may = g.S.Source.may_answer c.ask.new.source in
    let unasked = fresh_unasked c.args.asked.now.items c.args.path fresh in
    let grown = c.in_ok-bytes.ensures.grown unasked in
    let none = rw c.in_default.is at (c.in_ok-bytes.ensures.answer unasked) in
    let gone =
    is_gone digest entries (g.S.Source.may_answer c.args.source.now) is c.args.path
    (tile_within (length entries) c.args.path tile) none in
    let next =
    source_stays digest entries (g.S.Source.may_answer c.args.source.now) may c.in_ok-bytes.ensures.later is in
    let full =
    full_fresh c.args.path c.full.result c.args.asked.now.items c.ask.new.asked.items c.full.ensures
    (gone_partial (length entries) c.args.path gone) grown fresh in
    let answer : may c.full.result (Some c.in-Some-2.bytes.items) =
    rw c.in-Some-2.is at (c.in_ok-bytes-2.ensures.answer full) in
    let there : may (full_of c.args.path) (Some c.in-Some-2.bytes.items) =
    subst (λ (q : Path). may q (Some c.in-Some-2.bytes.items)) c.full.ensures answer in
    let long : length c.in-Some-2.bytes.items ≡ 8192 =
    full_length digest entries may next c.args.path c.in-Some-2.bytes.items tile gone there in
    absurd (c.if-len-ne-FULL_TILE.true (c.len.ensures ∙ (c.in-Some-2.bytes.ok.0 ∙ long)))

pub returns-in_err-bytes-clause-honest : goal.returns-in_err-bytes-clause-honest
returns-in_err-bytes-clause-honest g c =
    let p = err_from_is_err_and c.from_residual.result c.from_residual.ensures.1 in
    rw (p.1, p.2)
    (λ digest entries is tile fresh. outside c.in_err-bytes.field-0.0
    c.in_err-bytes.ensures.early c.in_err-bytes.ensures.late)

pub returns-in_err-bytes-2-clause-honest : goal.returns-in_err-bytes-2-clause-honest
returns-in_err-bytes-2-clause-honest g c =
    let p = err_from_is_err_and c.from_residual-in_err-bytes-2.result c.from_residual-in_err-bytes-2.ensures.1 in
    rw (p.1, p.2)
    (λ digest entries is tile fresh. outside c.in_err-bytes-2.field-0.0
    c.in_err-bytes-2.ensures.early c.in_err-bytes-2.ensures.late)

pub returns-clause-counted : goal.returns-clause-counted
returns-clause-counted g c = c.in_ok-bytes-2.ensures.counted ∙ c.in_ok-bytes.ensures.counted

pub returns-clause-early : goal.returns-clause-early
returns-clause-early g c = tt

pub returns-clause-later : goal.returns-clause-later
returns-clause-later g c =
    let may = g.S.Source.may_answer in
    stays_then (may c.args.source.now) (may c.ask.new.source) (may c.ask-2.new.source) c.in_ok-bytes.ensures.later
    c.in_ok-bytes-2.ensures.later

pub returns-in_default-2-clause-counted : goal.returns-in_default-2-clause-counted
returns-in_default-2-clause-counted g c = c.in_ok-bytes-2.ensures.counted ∙ c.in_ok-bytes.ensures.counted

pub returns-in_default-2-clause-early : goal.returns-in_default-2-clause-early
returns-in_default-2-clause-early g c = tt

pub returns-in_default-2-clause-later : goal.returns-in_default-2-clause-later
returns-in_default-2-clause-later g c =
    let may = g.S.Source.may_answer in
    stays_then (may c.args.source.now) (may c.ask.new.source) (may c.ask-2.new.source) c.in_ok-bytes.ensures.later
    c.in_ok-bytes-2.ensures.later

pub returns-then-len-ne-FULL_TILE-clause-counted : goal.returns-then-len-ne-FULL_TILE-clause-counted
returns-then-len-ne-FULL_TILE-clause-counted g c = c.in_ok-bytes-2.ensures.counted ∙ c.in_ok-bytes.ensures.counted

pub returns-then-len-ne-FULL_TILE-clause-early : goal.returns-then-len-ne-FULL_TILE-clause-early
returns-then-len-ne-FULL_TILE-clause-early g c = tt

pub returns-then-len-ne-FULL_TILE-clause-later : goal.returns-then-len-ne-FULL_TILE-clause-later
returns-then-len-ne-FULL_TILE-clause-later g c =
    let may = g.S.Source.may_answer in
    stays_then (may c.args.source.now) (may c.ask.new.source) (may c.ask-2.new.source) c.in_ok-bytes.ensures.later
    c.in_ok-bytes-2.ensures.later

pub returns-in-Some-clause-counted : goal.returns-in-Some-clause-counted
returns-in-Some-clause-counted g c = c.in_ok-bytes.ensures.counted

pub returns-in-Some-clause-early : goal.returns-in-Some-clause-early
returns-in-Some-clause-early g c = tt

pub returns-in-Some-clause-later : goal.returns-in-Some-clause-later
returns-in-Some-clause-later g c = c.in_ok-bytes.ensures.later

pub returns-in-Some-clause-recorded : goal.returns-in-Some-clause-recorded
returns-in-Some-clause-recorded g c = c.in_ok-bytes.ensures.recorded

pub returns-in_err-bytes-2-clause-counted : goal.returns-in_err-bytes-2-clause-counted
returns-in_err-bytes-2-clause-counted g c =
    let failed = g.S.Source.failed in
    let p = err_from_is_err_and c.from_residual-in_err-bytes-2.result c.from_residual-in_err-bytes-2.ensures.1 in
    rw (p.1, p.2)
    (counts_err (failed c.args.source.now) (failed c.ask.new.source) (failed c.ask-2.new.source)
    c.in_err-bytes-2.field-0.0 c.in_ok-bytes.ensures.counted c.in_err-bytes-2.ensures.counted)

pub returns-in_err-bytes-2-clause-later : goal.returns-in_err-bytes-2-clause-later
returns-in_err-bytes-2-clause-later g c =
    let may = g.S.Source.may_answer in
    stays_then (may c.args.source.now) (may c.ask.new.source) (may c.ask-2.new.source) c.in_ok-bytes.ensures.later
    c.in_err-bytes-2.ensures.later

pub returns-in_err-bytes-clause-counted : goal.returns-in_err-bytes-clause-counted
returns-in_err-bytes-clause-counted g c =
    let p = err_from_is_err_and c.from_residual.result c.from_residual.ensures.1 in
    rw (p.1, p.2) c.in_err-bytes.ensures.counted

pub returns-in_err-bytes-clause-later : goal.returns-in_err-bytes-clause-later
returns-in_err-bytes-clause-later g c = c.in_err-bytes.ensures.later

pub returns-in_err-bytes-clause-recorded : goal.returns-in_err-bytes-clause-recorded
returns-in_err-bytes-clause-recorded g c =
    let p = err_from_is_err_and c.from_residual.result c.from_residual.ensures.1 in
    rw p.1 c.in_err-bytes.ensures.recorded

pub returns-in-Some-clause-replied : goal.returns-in-Some-clause-replied
returns-in-Some-clause-replied g c =
    row_found (g.S.Source.may_answer c.args.source.now) (g.S.Source.asked c.args.source.now)
    (g.S.Source.asked c.ask.new.source) c.args.asked.now.items c.ask.new.asked.items c.args.path _
    c.in-Some.bytes.items (ap (option_map (λ v. v.items)) c.in-Some.is) c.in_ok-bytes.ensures.replied

pub returns-clause-replied : goal.returns-clause-replied
returns-clause-replied g c =
    row_cut (g.S.Source.may_answer c.args.source.now) (g.S.Source.may_answer c.ask.new.source)
    (g.S.Source.asked c.args.source.now) (g.S.Source.asked c.ask.new.source) (g.S.Source.asked c.ask-2.new.source)
    c.args.asked.now.items c.ask.new.asked.items c.ask-2.new.asked.items c.args.path c.full.result _ _
    c.in_ok-bytes.ensures.later c.full.ensures (ap (option_map (λ v. v.items)) c.in_default.is)
    c.in_ok-bytes.ensures.replied c.in_ok-bytes-2.ensures.replied c.in-Some-2.bytes.items c.truncate.new.self.items
    (ap (option_map (λ v. v.items)) c.in-Some-2.is)
    (sym c.in-Some-2.bytes.ok.0 ∙ (sym c.len.ensures ∙ c.if-len-ne-FULL_TILE.false))
    (rw c.width.ensures at c.truncate.ensures.items)

pub returns-in_default-2-clause-replied : goal.returns-in_default-2-clause-replied
returns-in_default-2-clause-replied g c = (
  λ e. row_none (g.S.Source.may_answer c.args.source.now) (g.S.Source.may_answer c.ask.new.source)
      (g.S.Source.asked c.args.source.now) (g.S.Source.asked c.ask.new.source) (g.S.Source.asked c.ask-2.new.source)
      c.args.asked.now.items c.ask.new.asked.items c.ask-2.new.asked.items c.args.path c.full.result _ _
      c.in_ok-bytes.ensures.later c.full.ensures (ap (option_map (λ v. v.items)) c.in_default.is)
      c.in_ok-bytes.ensures.replied c.in_ok-bytes-2.ensures.replied
      (λ b is long. never_none b (sym (ap (option_map (λ v. v.items)) c.in_default-2.is) ∙ is)),
  λ other. absurd (other refl),
)

pub returns-then-len-ne-FULL_TILE-clause-replied : goal.returns-then-len-ne-FULL_TILE-clause-replied
returns-then-len-ne-FULL_TILE-clause-replied g c = (
  λ e. row_none (g.S.Source.may_answer c.args.source.now) (g.S.Source.may_answer c.ask.new.source)
      (g.S.Source.asked c.args.source.now) (g.S.Source.asked c.ask.new.source) (g.S.Source.asked c.ask-2.new.source)
      c.args.asked.now.items c.ask.new.asked.items c.ask-2.new.asked.items c.args.path c.full.result _ _
      c.in_ok-bytes.ensures.later c.full.ensures (ap (option_map (λ v. v.items)) c.in_default.is)
      c.in_ok-bytes.ensures.replied c.in_ok-bytes-2.ensures.replied
      (λ b is long. c.if-len-ne-FULL_TILE.true
      (c.len.ensures ∙ (c.in-Some-2.bytes.ok.0 ∙
      (ap length (some_same c.in-Some-2.bytes.items b (sym (ap (option_map (λ v. v.items)) c.in-Some-2.is) ∙ is)) ∙ long)))),
  λ other. absurd (other refl),
)

pub returns-in_err-bytes-clause-replied : goal.returns-in_err-bytes-clause-replied
returns-in_err-bytes-clause-replied g c =
    let p = err_from_is_err_and c.from_residual.result c.from_residual.ensures.1 in
    rw (p.1, p.2) (
      λ e. absurd (not_edge c.in_err-bytes.field-0.0 c.in_err-bytes.ensures.late e),
      λ other. ends_as c.in_err-bytes.ensures.replied
          (λ xs tried u. unanswered_as (comes_first c.args.asked.now.items c.args.path) u),
    )

pub returns-in_err-bytes-2-clause-replied : goal.returns-in_err-bytes-2-clause-replied
returns-in_err-bytes-2-clause-replied g c =
    let p = err_from_is_err_and c.from_residual-in_err-bytes-2.result c.from_residual-in_err-bytes-2.ensures.1 in
    rw (p.1, p.2) (
      λ e. absurd (not_edge c.in_err-bytes-2.field-0.0 c.in_err-bytes-2.ensures.late e),
      λ other. row_unanswered (g.S.Source.may_answer c.args.source.now) (g.S.Source.may_answer c.ask.new.source)
          (g.S.Source.asked c.args.source.now) (g.S.Source.asked c.ask.new.source) (g.S.Source.asked c.ask-2.new.source)
          c.args.asked.now.items c.ask.new.asked.items c.ask-2.new.asked.items c.args.path c.full.result _
          c.in_ok-bytes.ensures.later c.full.ensures (ap (option_map (λ v. v.items)) c.in_default.is)
          c.in_ok-bytes.ensures.replied _ c.in_err-bytes-2.ensures.replied,
    )
