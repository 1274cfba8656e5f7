use Rattle.std.proofs.Common.{Some, None, ◌∙◌}
use Rattle.std.proofs.lemmas.Result.{err_from_is_err_and}
use Rattle.mirror_pull.proofs.Askings.{adds_some_then, adds_to_then, asks_late}
use Rattle.mirror_pull.proofs.Gains.{gains_item, gains_itself, late_item, counts_item, counts_err, stays_then, outside}
use Rattle.mirror_pull.proofs.Freshness.{fresh_unasked}
use Rattle.mirror_pull.proofs.TrueTakes.{path_fresh, path_found, path_full_fresh, path_full, path_neither}
use Rattle.std.proofs.Common.{ap, option_map}
use Rattle.mirror_pull.specs.Replying.{StopsAsking}
use Rattle.mirror_pull.proofs.Replies.{none_worked}
use Rattle.mirror_pull.proofs.Early.{ends_as, unanswered_as, comes_in_path, found_follows, full_follows}
use Rattle.mirror_pull.proofs.Early.{full_unanswered}
use Rattle.mirror_pull.proofs.rounds.take_path.Goals as goal

pub returns-in_err-bytes-clause-late : goal.returns-in_err-bytes-clause-late
returns-in_err-bytes-clause-late g c =
    let p = err_from_is_err_and c.from_residual.result c.from_residual.ensures.1 in rw
    (p.1, p.2) c.in_err-bytes.ensures.late

pub returns-in_err-bytes-2-clause-late : goal.returns-in_err-bytes-2-clause-late
returns-in_err-bytes-2-clause-late g c =
    let p = err_from_is_err_and c.from_residual-in_err-bytes-2.result c.from_residual-in_err-bytes-2.ensures.1 in rw
    (p.1, p.2) c.in_err-bytes-2.ensures.late

pub returns-in_err-bytes-2-clause-recorded : goal.returns-in_err-bytes-2-clause-recorded
returns-in_err-bytes-2-clause-recorded g c =
    let asked = g.S.Source.asked in
    let p = err_from_is_err_and c.from_residual-in_err-bytes-2.result c.from_residual-in_err-bytes-2.ensures.1 in
    rw p.1 (adds_some_then c.args.asked.now.items c.ask.new.asked.items (asked c.args.source.now)
    (asked c.ask.new.source) (asked c.ask-2.new.source) c.in_ok-bytes.ensures.recorded c.in_err-bytes-2.ensures.recorded)

pub returns-in-Some-clause-recorded : goal.returns-in-Some-clause-recorded
returns-in-Some-clause-recorded g c = asks_late _ _ _ _ _ c.in_ok-bytes.ensures.recorded

pub returns-in-Some-2-clause-recorded : goal.returns-in-Some-2-clause-recorded
returns-in-Some-2-clause-recorded g c =
    let asked = g.S.Source.asked in
    asks_late _ _ _ _ _
    (adds_to_then c.args.asked.now.items c.ask.new.asked.items c.ask-2.new.asked.items (asked c.args.source.now)
    (asked c.ask.new.source) (asked c.ask-2.new.source) c.in_ok-bytes.ensures.recorded c.in_ok-bytes-2.ensures.recorded)

pub returns-in-None-clause-recorded : goal.returns-in-None-clause-recorded
returns-in-None-clause-recorded g c =
    let asked = g.S.Source.asked in
    adds_to_then c.args.asked.now.items c.ask.new.asked.items c.ask-2.new.asked.items (asked c.args.source.now)
    (asked c.ask.new.source) (asked c.ask-2.new.source) c.in_ok-bytes.ensures.recorded c.in_ok-bytes-2.ensures.recorded

pub returns-in-Some-clause-gains : goal.returns-in-Some-clause-gains
returns-in-Some-clause-gains g c =
    gains_item g.H.TreeHash.digest _ _ c.args.path c.deref.result.now _ c.take_found.ensures

pub returns-in-Some-2-clause-gains : goal.returns-in-Some-2-clause-gains
returns-in-Some-2-clause-gains g c =
    gains_item g.H.TreeHash.digest _ _ c.full-full.result c.deref-in-Some-2.result.now _
    c.take_found-in-Some-2.ensures

pub returns-in-Some-clause-honest : goal.returns-in-Some-clause-honest
returns-in-Some-clause-honest g c =
    λ entries size m.
    let may = g.S.Source.may_answer c.args.source.now in
    let unasked =
    fresh_unasked c.args.asked.now.items c.args.path
    (path_fresh g.H.TreeHash.digest entries size may c.args.mirror.now.view c.args.path c.args.asked.now.items m) in
    let answer : may c.args.path (Some c.in-Some.bytes.items) =
    rw c.in-Some.is at (c.in_ok-bytes.ensures.answer unasked) in
    path_found g.H.TreeHash.digest entries size may c.args.mirror.now.view c.args.path c.args.asked.now.items m
    c.take_found.new.mirror.view c.ask.new.asked.items c.in-Some.bytes.items c.deref.result.now c.take_found.result
    answer c.deref.ensures.value (c.in_ok-bytes.ensures.grown unasked) c.take_found.ensures

pub returns-in-Some-2-clause-honest : goal.returns-in-Some-2-clause-honest
returns-in-Some-2-clause-honest g c =
    λ entries size m.
    let may = g.S.Source.may_answer c.args.source.now in
    let later = g.S.Source.may_answer c.ask.new.source in
    let v = c.args.mirror.now.view in
    let digest = g.H.TreeHash.digest in
    let before = c.args.asked.now.items in
    let unasked = fresh_unasked before c.args.path (path_fresh digest entries size may v c.args.path before m) in
    let grown = c.in_ok-bytes.ensures.grown unasked in
    let none : may c.args.path None = rw c.in_default.is at (c.in_ok-bytes.ensures.answer unasked) in
    let full =
    path_full_fresh digest entries size may v c.args.path before m c.full-full.result c.ask.new.asked.items none
    c.full-full.ensures grown in
    let answer : later c.full-full.result (Some c.in-Some-2.bytes.items) =
    rw c.in-Some-2.is at (c.in_ok-bytes-2.ensures.answer full) in
    path_full digest entries size may v c.args.path before m later
    c.take_found-in-Some-2.new.mirror.view c.full-full.result c.ask.new.asked.items c.ask-2.new.asked.items
    c.in-Some-2.bytes.items c.deref-in-Some-2.result.now c.take_found-in-Some-2.result c.in_ok-bytes.ensures.later
    none answer c.full-full.ensures c.deref-in-Some-2.ensures.value grown (c.in_ok-bytes-2.ensures.grown full)
    c.take_found-in-Some-2.ensures

pub returns-in-None-clause-honest : goal.returns-in-None-clause-honest
returns-in-None-clause-honest g c =
    λ entries size m.
    let may = g.S.Source.may_answer c.args.source.now in
    let later = g.S.Source.may_answer c.ask.new.source in
    let v = c.args.mirror.now.view in
    let digest = g.H.TreeHash.digest in
    let before = c.args.asked.now.items in
    let unasked = fresh_unasked before c.args.path (path_fresh digest entries size may v c.args.path before m) in
    let grown = c.in_ok-bytes.ensures.grown unasked in
    let none : may c.args.path None = rw c.in_default.is at (c.in_ok-bytes.ensures.answer unasked) in
    let full =
    path_full_fresh digest entries size may v c.args.path before m c.full-full.result c.ask.new.asked.items none
    c.full-full.ensures grown in
    let answer : later c.full-full.result None = rw c.in-None.is at (c.in_ok-bytes-2.ensures.answer full) in
    absurd (path_neither digest entries size may v c.args.path before m later c.full-full.result
    c.in_ok-bytes.ensures.later none answer c.full-full.ensures)

pub returns-in_err-bytes-clause-honest : goal.returns-in_err-bytes-clause-honest
returns-in_err-bytes-clause-honest g c =
    let p = err_from_is_err_and c.from_residual.result c.from_residual.ensures.1 in
    rw (p.1, p.2)
    (λ entries size m. outside c.in_err-bytes.field-0.0 c.in_err-bytes.ensures.early c.in_err-bytes.ensures.late)

pub returns-in_err-bytes-2-clause-honest : goal.returns-in_err-bytes-2-clause-honest
returns-in_err-bytes-2-clause-honest g c =
    let p = err_from_is_err_and c.from_residual-in_err-bytes-2.result c.from_residual-in_err-bytes-2.ensures.1 in
    rw (p.1, p.2)
    (λ entries size m.
    outside c.in_err-bytes-2.field-0.0 c.in_err-bytes-2.ensures.early c.in_err-bytes-2.ensures.late)

pub returns-in-Some-clause-late : goal.returns-in-Some-clause-late
returns-in-Some-clause-late g c =
    late_item g.H.TreeHash.digest _ _ c.args.path c.deref.result.now _ c.take_found.ensures

pub returns-in-Some-2-clause-late : goal.returns-in-Some-2-clause-late
returns-in-Some-2-clause-late g c =
    late_item g.H.TreeHash.digest _ _ c.full-full.result c.deref-in-Some-2.result.now _
    c.take_found-in-Some-2.ensures

pub returns-in-Some-clause-counted : goal.returns-in-Some-clause-counted
returns-in-Some-clause-counted g c =
    counts_item g.H.TreeHash.digest _ _ c.args.path c.deref.result.now _ _ _ c.in_ok-bytes.ensures.counted
    c.take_found.ensures

pub returns-in-Some-2-clause-counted : goal.returns-in-Some-2-clause-counted
returns-in-Some-2-clause-counted g c =
    counts_item g.H.TreeHash.digest _ _ c.full-full.result c.deref-in-Some-2.result.now _ _ _
    (c.in_ok-bytes-2.ensures.counted ∙ c.in_ok-bytes.ensures.counted) c.take_found-in-Some-2.ensures

pub returns-in_err-bytes-clause-recorded : goal.returns-in_err-bytes-clause-recorded
returns-in_err-bytes-clause-recorded g c =
    let p = err_from_is_err_and c.from_residual.result c.from_residual.ensures.1 in
    rw p.1 c.in_err-bytes.ensures.recorded

pub returns-in_err-bytes-clause-counted : goal.returns-in_err-bytes-clause-counted
returns-in_err-bytes-clause-counted g c =
    let p = err_from_is_err_and c.from_residual.result c.from_residual.ensures.1 in
    rw (p.1, p.2) c.in_err-bytes.ensures.counted

pub returns-in_err-bytes-2-clause-counted : goal.returns-in_err-bytes-2-clause-counted
returns-in_err-bytes-2-clause-counted g c =
    let p = err_from_is_err_and c.from_residual-in_err-bytes-2.result c.from_residual-in_err-bytes-2.ensures.1 in
    rw (p.1, p.2)
    (counts_err (g.S.Source.failed c.args.source.now) (g.S.Source.failed c.ask.new.source)
    (g.S.Source.failed c.ask-2.new.source) c.in_err-bytes-2.field-0.0 c.in_ok-bytes.ensures.counted
    c.in_err-bytes-2.ensures.counted)

pub returns-in_err-bytes-clause-gains : goal.returns-in_err-bytes-clause-gains
returns-in_err-bytes-clause-gains g c =
    gains_itself c.args.mirror.now.view

pub returns-in_err-bytes-2-clause-gains : goal.returns-in_err-bytes-2-clause-gains
returns-in_err-bytes-2-clause-gains g c =
    gains_itself c.args.mirror.now.view

pub returns-in-None-clause-gains : goal.returns-in-None-clause-gains
returns-in-None-clause-gains g c =
    gains_itself c.args.mirror.now.view

pub returns-in_err-bytes-clause-later : goal.returns-in_err-bytes-clause-later
returns-in_err-bytes-clause-later g c =
    c.in_err-bytes.ensures.later

pub returns-in-Some-clause-later : goal.returns-in-Some-clause-later
returns-in-Some-clause-later g c =
    c.in_ok-bytes.ensures.later

pub returns-in_err-bytes-2-clause-later : goal.returns-in_err-bytes-2-clause-later
returns-in_err-bytes-2-clause-later g c =
    let may = g.S.Source.may_answer in
    stays_then (may c.args.source.now) (may c.ask.new.source) (may c.ask-2.new.source) c.in_ok-bytes.ensures.later
    c.in_err-bytes-2.ensures.later

pub returns-in-Some-2-clause-later : goal.returns-in-Some-2-clause-later
returns-in-Some-2-clause-later g c =
    let may = g.S.Source.may_answer in
    stays_then (may c.args.source.now) (may c.ask.new.source) (may c.ask-2.new.source) c.in_ok-bytes.ensures.later
    c.in_ok-bytes-2.ensures.later

pub returns-in-None-clause-later : goal.returns-in-None-clause-later
returns-in-None-clause-later g c =
    let may = g.S.Source.may_answer in
    stays_then (may c.args.source.now) (may c.ask.new.source) (may c.ask-2.new.source) c.in_ok-bytes.ensures.later
    c.in_ok-bytes-2.ensures.later

pub returns-in-None-clause-late : goal.returns-in-None-clause-late
returns-in-None-clause-late g c =
    tt

pub returns-in-None-clause-counted : goal.returns-in-None-clause-counted
returns-in-None-clause-counted g c =
    c.in_ok-bytes-2.ensures.counted ∙ c.in_ok-bytes.ensures.counted

pub returns-in-Some-clause-replied : goal.returns-in-Some-clause-replied
returns-in-Some-clause-replied g c =
    found_follows (g.S.Source.may_answer c.args.source.now) (g.S.Source.asked c.args.source.now)
    (g.S.Source.asked c.ask.new.source) c.args.asked.now.items c.ask.new.asked.items c.args.path _
    c.in-Some.bytes.items c.deref.result.now g.H.TreeHash.digest c.args.mirror.now.view c.take_found.new.mirror.view
    c.take_found.result (ap (option_map (λ v. v.items)) c.in-Some.is) c.deref.ensures.value
    c.in_ok-bytes.ensures.replied c.take_found.ensures

pub returns-in-Some-2-clause-replied : goal.returns-in-Some-2-clause-replied
returns-in-Some-2-clause-replied g c =
    full_follows (g.S.Source.may_answer c.args.source.now) (g.S.Source.may_answer c.ask.new.source)
    (g.S.Source.asked c.args.source.now) (g.S.Source.asked c.ask.new.source) (g.S.Source.asked c.ask-2.new.source)
    c.args.asked.now.items c.ask.new.asked.items c.ask-2.new.asked.items c.args.path c.full-full.result _
    c.in_ok-bytes.ensures.later c.full-full.ensures (ap (option_map (λ v. v.items)) c.in_default.is)
    c.in_ok-bytes.ensures.replied _ c.in-Some-2.bytes.items c.deref-in-Some-2.result.now
    g.H.TreeHash.digest c.args.mirror.now.view c.take_found-in-Some-2.new.mirror.view c.take_found-in-Some-2.result
    (ap (option_map (λ v. v.items)) c.in-Some-2.is) c.deref-in-Some-2.ensures.value c.in_ok-bytes-2.ensures.replied
    c.take_found-in-Some-2.ensures

pub returns-in-None-clause-replied : goal.returns-in-None-clause-replied
returns-in-None-clause-replied g c =
    none_worked (g.S.Source.may_answer c.args.source.now) (g.S.Source.may_answer c.ask.new.source)
    (g.S.Source.asked c.args.source.now) (g.S.Source.asked c.ask.new.source) (g.S.Source.asked c.ask-2.new.source)
    c.args.asked.now.items c.ask.new.asked.items c.ask-2.new.asked.items c.args.path c.full-full.result _ _
    c.in_ok-bytes.ensures.later c.full-full.ensures (ap (option_map (λ v. v.items)) c.in_default.is)
    c.in_ok-bytes.ensures.replied c.in_ok-bytes-2.ensures.replied
    g.H.TreeHash.digest c.args.mirror.now.view (ap (option_map (λ v. v.items)) c.in-None.is)

pub returns-in_err-bytes-clause-replied : goal.returns-in_err-bytes-clause-replied
returns-in_err-bytes-clause-replied g c =
    let p = err_from_is_err_and c.from_residual.result c.from_residual.ensures.1 in
    rw (p.1, p.2) (ends_as c.in_err-bytes.ensures.replied (λ xs tried u. StopsAsking
    (unanswered_as (comes_in_path g.H.TreeHash.digest c.args.asked.now.items c.args.mirror.now.view c.args.path) u)))

pub returns-in_err-bytes-2-clause-replied : goal.returns-in_err-bytes-2-clause-replied
returns-in_err-bytes-2-clause-replied g c =
    let p = err_from_is_err_and c.from_residual-in_err-bytes-2.result c.from_residual-in_err-bytes-2.ensures.1 in
    rw (p.1, p.2)
    (full_unanswered (g.S.Source.may_answer c.args.source.now) (g.S.Source.may_answer c.ask.new.source)
    (g.S.Source.asked c.args.source.now) (g.S.Source.asked c.ask.new.source) (g.S.Source.asked c.ask-2.new.source)
    c.args.asked.now.items c.ask.new.asked.items c.ask-2.new.asked.items c.args.path c.full-full.result _
    c.in_ok-bytes.ensures.later c.full-full.ensures (ap (option_map (λ v. v.items)) c.in_default.is)
    c.in_ok-bytes.ensures.replied g.H.TreeHash.digest c.args.mirror.now.view _ c.in_err-bytes-2.ensures.replied)
