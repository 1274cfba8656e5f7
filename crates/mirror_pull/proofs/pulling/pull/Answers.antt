use Rattle.std.proofs.Common.{◌≡◌, ◌∙◌, Some, None, refl, sym, ap, map, inl, option_map, ◌∷◌, []}
use Rattle.tlog_tiles.specs.declared.paths.Path.TheVariants.{Checkpoint}
use Rattle.mirror_model.proofs.Views.{head_stays}
use Rattle.mirror_pull.specs.Answering.{of_take}
use Rattle.tlog_tiles.specs.Edge.{edge_of}
use Rattle.mirror_pull.proofs.BegunPulls.{is_begun, may_go_on, rows_are_edge}
use Rattle.mirror_pull.proofs.TruePulls.{none_asked, some_same, never_none}
use Rattle.mirror_pull.proofs.TruePulls.{head_fault, worked_complete, worked_gets, worked_few, worked_none}
use Rattle.mirror_pull.proofs.TruePulls.{worked_note, worked_notes, worked_strings, outcome_read}
use Rattle.std.proofs.lemmas.Result.{err_from_is_err_and}
use Rattle.mirror_pull.proofs.Askings.{adds_some_then, adds_to_then, some_of, from_none}
use Rattle.mirror_pull.proofs.Gains.{outcome_early, outcome_head, outcome_late, grows_head, grows_then, has_head}
use Rattle.mirror_pull.proofs.Gains.{counts_err, outside, stays_then}
use Rattle.mirror_pull.proofs.HeadsRead.{opened_head, honest_fault}
use Rattle.mirror_model.proofs.Views.{within_itself}
use Rattle.mirror_pull.specs.Replying.{GivesRows, GivesNoRows, AreWorkedRounds, EndsAsking}
use Rattle.mirror_pull.proofs.Early.{ends_as, ends_behind, unanswered_as}
use Rattle.mirror_pull.proofs.Followed.{replied_first, replied_of, follows_late, follows_edge, at_checkpoint}
use Rattle.mirror_pull.proofs.Followed.{follows_taken, follows_head, behind_note, all_replies, pulled_by}
use Rattle.mirror_pull.proofs.Followed.{edge_unanswered, rounds_stop, head_taken}
use Rattle.std.proofs.Common.{Err}
use Rattle.mirror_pull.specs.declared.fault.PullFault.TheVariants.{NoCheckpoint}
use Rattle.mirror_pull.proofs.LeftPulls.{kept_honestly}
use Rattle.tlog_mirror.proofs.OpenHeads.{open_here}
use Rattle.mirror_pull.proofs.pulling.pull.Goals as goal

pub take_rows-requires : goal.take_rows-requires
take_rows-requires g c = (_, open_here _ _ _ c.in_ok-head.head c.in_ok-head.ensures.reads c.in_ok-head.ensures.note _ refl)

pub returns-in_err-rows-clause-once : goal.returns-in_err-rows-clause-once
returns-in_err-rows-clause-once g c =
    from_none c.new-asked.result.items (g.S.Source.asked c.args.source.now)
    (g.S.Source.asked c.edge_rows.new.source) c.new-asked.ensures.items
    (adds_some_then c.new-asked.result.items c.ask.new.asked.items (g.S.Source.asked c.args.source.now)
    (g.S.Source.asked c.ask.new.source)
    (g.S.Source.asked c.edge_rows.new.source) c.in_ok-note.ensures.recorded c.in_err-rows.ensures.recorded)

pub returns-in_err-take_rows-clause-once : goal.returns-in_err-take_rows-clause-once
returns-in_err-take_rows-clause-once g c =
    from_none c.new-asked.result.items (g.S.Source.asked c.args.source.now)
    (g.S.Source.asked c.edge_rows.new.source) c.new-asked.ensures.items
    (some_of c.new-asked.result.items c.edge_rows.new.asked.items (g.S.Source.asked c.args.source.now)
    (g.S.Source.asked c.edge_rows.new.source)
    (adds_to_then c.new-asked.result.items c.ask.new.asked.items c.edge_rows.new.asked.items
    (g.S.Source.asked c.args.source.now) (g.S.Source.asked c.ask.new.source)
    (g.S.Source.asked c.edge_rows.new.source) c.in_ok-note.ensures.recorded c.in_ok-rows.ensures.recorded))

pub returns-in_err-rounds-clause-once : goal.returns-in_err-rounds-clause-once
returns-in_err-rounds-clause-once g c =
    from_none c.new-asked.result.items (g.S.Source.asked c.args.source.now)
    (g.S.Source.asked c.work.new.source) c.new-asked.ensures.items
    (adds_some_then c.new-asked.result.items c.edge_rows.new.asked.items (g.S.Source.asked c.args.source.now)
    (g.S.Source.asked c.edge_rows.new.source) (g.S.Source.asked c.work.new.source)
    (adds_to_then c.new-asked.result.items c.ask.new.asked.items c.edge_rows.new.asked.items
    (g.S.Source.asked c.args.source.now) (g.S.Source.asked c.ask.new.source)
    (g.S.Source.asked c.edge_rows.new.source) c.in_ok-note.ensures.recorded c.in_ok-rows.ensures.recorded)
    c.in_err-rounds.ensures.recorded)

pub returns-clause-once : goal.returns-clause-once
returns-clause-once g c =
    from_none c.new-asked.result.items (g.S.Source.asked c.args.source.now)
    (g.S.Source.asked c.work.new.source) c.new-asked.ensures.items
    (some_of c.new-asked.result.items c.work.new.asked.items (g.S.Source.asked c.args.source.now)
    (g.S.Source.asked c.work.new.source)
    (adds_to_then c.new-asked.result.items c.edge_rows.new.asked.items c.work.new.asked.items
    (g.S.Source.asked c.args.source.now) (g.S.Source.asked c.edge_rows.new.source)
    (g.S.Source.asked c.work.new.source)
    (adds_to_then c.new-asked.result.items c.ask.new.asked.items c.edge_rows.new.asked.items
    (g.S.Source.asked c.args.source.now) (g.S.Source.asked c.ask.new.source)
    (g.S.Source.asked c.edge_rows.new.source) c.in_ok-note.ensures.recorded c.in_ok-rows.ensures.recorded)
    c.in_ok-rounds.ensures.recorded))

pub returns-in_err-take_rows-clause-outcome : goal.returns-in_err-take_rows-clause-outcome
returns-in_err-take_rows-clause-outcome g c =
    let p = err_from_is_err_and c.from_residual-in_err-take_rows.result c.from_residual-in_err-take_rows.ensures.1 in
    rw (p.1, p.2)
    (outcome_head g.H.TreeHash.digest _ c.args.mirror.now.view c.take_rows.new.mirror.view c.in_ok-head.head.note.bytes _
    c.in_err-take_rows.field-0.0 (c.in_err-take_rows.ensures.takes _ (open_here _ _ _ c.in_ok-head.head c.in_ok-head.ensures.reads c.in_ok-head.ensures.note _ refl)))

pub returns-in_err-rounds-clause-outcome : goal.returns-in_err-rounds-clause-outcome
returns-in_err-rounds-clause-outcome g c =
    let p = err_from_is_err_and c.from_residual-in_err-rounds.result c.from_residual-in_err-rounds.ensures.1 in
    rw (p.1, p.2)
    (outcome_late g.H.TreeHash.digest _ c.args.mirror.now.view c.work.new.mirror.view c.in_err-rounds.field-0.0
    c.in_err-rounds.ensures.late (grows_then _ c.args.mirror.now.view c.take_rows.new.mirror.view
    c.work.new.mirror.view (grows_head g.H.TreeHash.digest _ c.args.mirror.now.view c.take_rows.new.mirror.view
    c.in_ok-head.head.note.bytes _ (c.in_ok-take_rows.ensures.takes _ (open_here _ _ _ c.in_ok-head.head c.in_ok-head.ensures.reads c.in_ok-head.ensures.note _ refl))) c.in_err-rounds.ensures.gains))

pub returns-clause-outcome : goal.returns-clause-outcome
returns-clause-outcome g c = (
  grows_then _ c.args.mirror.now.view c.take_rows.new.mirror.view c.work.new.mirror.view
      (grows_head g.H.TreeHash.digest _ c.args.mirror.now.view c.take_rows.new.mirror.view c.in_ok-head.head.note.bytes _
      (c.in_ok-take_rows.ensures.takes _ (open_here _ _ _ c.in_ok-head.head c.in_ok-head.ensures.reads c.in_ok-head.ensures.note _ refl))) c.in_ok-rounds.ensures.gains,
  record {
    head = has_head g.H.TreeHash.digest _ c.args.mirror.now.view c.take_rows.new.mirror.view c.work.new.mirror.view
        c.in_ok-head.head.note.bytes c.deref.result.now _ c.in_ok-head.head.checkpoint.size c.in_ok-head.head.checkpoint.root
        ((c.in_ok-head.ensures.note ∙ c.deref.ensures.value) ∙ sym c.deref.ensures.value) (c.in_ok-take_rows.ensures.takes _ (open_here _ _ _ c.in_ok-head.head c.in_ok-head.ensures.reads c.in_ok-head.ensures.note _ refl)).2
        (opened_head _ _ _ c.in_ok-head.head.checkpoint c.in_ok-head.ensures.reads) c.in_ok-rounds.ensures.gains.grows;
    complete = c.is_complete.ensures.0;
    not_complete = c.is_complete.ensures.1;
    at_most = c.in_ok-rounds.ensures.rounds;
  },
)

pub returns-in_default-clause-honest : goal.returns-in_default-clause-honest
returns-in_default-clause-honest g c =
    λ entries note size is clean.
    let unasked = none_asked c.new-asked.result.items Checkpoint c.new-asked.ensures.items in
    absurd (never_none note (is.checkpoint None (rw c.in_default.is at (c.in_ok-note.ensures.answer unasked))))

pub returns-in_err-head-clause-honest : goal.returns-in_err-head-clause-honest
returns-in_err-head-clause-honest g c =
    let p = err_from_is_err_and c.from_residual-in_err-head.result c.from_residual-in_err-head.ensures.1 in
    rw (p.1, p.2) (λ entries note size is clean.
    let may = g.S.Source.may_answer in
    let unasked = none_asked c.new-asked.result.items Checkpoint c.new-asked.ensures.items in
    let answer : may c.args.source.now Checkpoint (Some c.in-Some.note.items) =
    rw c.in-Some.is at (c.in_ok-note.ensures.answer unasked) in
    let same : c.deref.result.now ≡ note =
    c.deref.ensures.value ∙
    some_same c.in-Some.note.items note (is.checkpoint (Some c.in-Some.note.items) answer) in
    inl (ap of_take
    (honest_fault g.H.TreeHash.digest entries _ c.args.mirror.now.view note c.deref.result.now size
    (may c.args.source.now) is same c.in_err-head.field-0.0 c.in_err-head.ensures.reads)))

pub returns-in_err-rows-clause-honest : goal.returns-in_err-rows-clause-honest
returns-in_err-rows-clause-honest g c =
    let p = err_from_is_err_and c.from_residual-in_err-rows.result c.from_residual-in_err-rows.ensures.1 in
    rw (p.1, p.2) (λ entries note size is clean.
    let b =
    is_begun g.met.H.TreeHash.digest_length c.args.mirror.now.view is clean c.in_ok-note.ensures.later
    c.new-asked.ensures.items c.in_ok-note.ensures.grown c.deref.ensures.value
    (rw c.in-Some.is at c.in_ok-note.ensures.answer) c.in_ok-head.ensures.reads in
    c.in_err-rows.ensures.honest _ entries b.source b.honestly.honest.within b.fresh)

pub returns-in_err-take_rows-clause-honest : goal.returns-in_err-take_rows-clause-honest
returns-in_err-take_rows-clause-honest g c =
    let p = err_from_is_err_and c.from_residual-in_err-take_rows.result c.from_residual-in_err-take_rows.ensures.1 in
    rw (p.1, p.2) (λ entries note size is clean.
    let b =
    is_begun g.met.H.TreeHash.digest_length c.args.mirror.now.view is clean c.in_ok-note.ensures.later
    c.new-asked.ensures.items c.in_ok-note.ensures.grown c.deref.ensures.value
    (rw c.in-Some.is at c.in_ok-note.ensures.answer) c.in_ok-head.ensures.reads in
    let got = c.in_ok-rows.ensures.honest _ entries b.source b.honestly.honest.within b.fresh in
    let note_is = (c.in_ok-head.ensures.note ∙ c.deref.ensures.value) ∙ sym c.deref.ensures.value in
    let rows_are = ap (map (λ row. row.items)) c.deref-2.ensures.value in
    head_fault _ b.hash _ entries _ c.deref.result.now c.in_ok-head.head.checkpoint.size _ b.honestly.honest
    b.honestly.clean b.small c.take_rows.new.mirror.view _ _ c.in_err-take_rows.field-0.0 note_is
    (rows_are_edge b got rows_are) (c.in_err-take_rows.ensures.takes _ (open_here _ _ _ c.in_ok-head.head c.in_ok-head.ensures.reads c.in_ok-head.ensures.note _ refl)))

pub returns-in_err-rounds-clause-honest : goal.returns-in_err-rounds-clause-honest
returns-in_err-rounds-clause-honest g c =
    let p = err_from_is_err_and c.from_residual-in_err-rounds.result c.from_residual-in_err-rounds.ensures.1 in
    rw (p.1, p.2) (λ entries note size is clean.
    let b =
    is_begun g.met.H.TreeHash.digest_length c.args.mirror.now.view is clean c.in_ok-note.ensures.later
    c.new-asked.ensures.items c.in_ok-note.ensures.grown c.deref.ensures.value
    (rw c.in-Some.is at c.in_ok-note.ensures.answer) c.in_ok-head.ensures.reads in
    let got = c.in_ok-rows.ensures.honest _ entries b.source b.honestly.honest.within b.fresh in
    let note_is = (c.in_ok-head.ensures.note ∙ c.deref.ensures.value) ∙ sym c.deref.ensures.value in
    let rows_are = ap (map (λ row. row.items)) c.deref-2.ensures.value in
    let on = may_go_on b got rows_are c.in_ok-rows.ensures.later note_is (c.in_ok-take_rows.ensures.takes _ (open_here _ _ _ c.in_ok-head.head c.in_ok-head.ensures.reads c.in_ok-head.ensures.note _ refl)).2 in
    c.in_err-rounds.ensures.honest entries on.may_work)

pub returns-clause-honest : goal.returns-clause-honest
returns-clause-honest g c =
    λ entries note size is clean.
    let digest = g.H.TreeHash.digest in
    let hash = g.met.H.TreeHash.digest_length in
    let v = c.args.mirror.now.view in
    let taken = c.deref.result.now in
    let at = c.in_ok-head.head.checkpoint.size in
    let root = c.in_ok-head.head.checkpoint.root in
    let none = c.new-asked.result.items in
    let b =
    is_begun hash v is clean c.in_ok-note.ensures.later
    c.new-asked.ensures.items c.in_ok-note.ensures.grown c.deref.ensures.value
    (rw c.in-Some.is at c.in_ok-note.ensures.answer) c.in_ok-head.ensures.reads in
    let got = c.in_ok-rows.ensures.honest _ entries b.source b.honestly.honest.within b.fresh in
    let note_is = (c.in_ok-head.ensures.note ∙ c.deref.ensures.value) ∙ sym c.deref.ensures.value in
    let rows_are = ap (map (λ row. row.items)) c.deref-2.ensures.value in
    let on = may_go_on b got rows_are c.in_ok-rows.ensures.later note_is (c.in_ok-take_rows.ensures.takes _ (open_here _ _ _ c.in_ok-head.head c.in_ok-head.ensures.reads c.in_ok-head.ensures.note _ refl)).2 in
    let w = c.take_rows.new.mirror.view in
    let asked = g.S.Source.asked in
    let edge_asked = c.edge_rows.new.asked.items in
    let all_asked = c.work.new.asked.items in
    let recorded =
    adds_to_then none edge_asked all_asked (asked c.args.source.now) (asked c.edge_rows.new.source)
    (asked c.work.new.source)
    (adds_to_then none c.ask.new.asked.items edge_asked (asked c.args.source.now) (asked c.ask.new.source)
    (asked c.edge_rows.new.source) c.in_ok-note.ensures.recorded c.in_ok-rows.ensures.recorded) c.in_ok-rounds.ensures.recorded in
    let done = c.in_ok-rounds.ensures.honest entries on.may_work in
    let x = c.work.new.mirror.view in
    let gains = c.in_ok-rounds.ensures.gains in
    let before = g.S.Source.may_answer c.args.source.now in
    let edge_may = g.S.Source.may_answer c.ask.new.source in
    let rest = g.S.Source.may_answer c.edge_rows.new.source in
    let later = stays_then before edge_may rest c.in_ok-note.ensures.later c.in_ok-rows.ensures.later in
    let honest = b.honestly.honest in
    let no_clash = b.honestly.clean in
    outcome_read digest entries note taken size at v x before (asked c.args.source.now) (asked c.work.new.source) _ b.same
    b.honestly.size_is (record {
      size_is = refl;
      root_is = b.honestly.root_is;
      none_refused = done.0;
      complete =
          c.is_complete.ensures.1
          (worked_complete digest hash _ entries v taken at before honest no_clash b.small rest w x _ edge_asked all_asked
          on.taken_is done.1 root b.honestly.root_is (head_stays w x gains.grows at root on.head));
      gets =
          worked_gets digest hash _ entries v taken at before honest no_clash b.small rest w x _ edge_asked all_asked
          on.taken_is done.1 edge_may none c.ask.new.asked.items (asked c.args.source.now) (asked c.work.new.source)
          c.in_ok-note.ensures.later later b.answered c.new-asked.ensures.items b.begun got.gets recorded;
      at_most =
          worked_few digest hash _ entries v taken at before honest no_clash b.small rest w x _ edge_asked all_asked
          on.taken_is done.1;
      none =
          worked_none digest hash _ entries v taken at before honest no_clash b.small rest w x _ edge_asked all_asked
          on.taken_is done.1;
      has_note =
          worked_note digest hash _ entries v taken at before honest no_clash b.small rest w x _ edge_asked all_asked
          on.taken_is done.1 gains;
      notes =
          worked_notes digest hash _ entries v taken at before honest no_clash b.small rest w x _ edge_asked all_asked
          on.taken_is done.1 gains;
      strings =
          worked_strings digest hash _ entries v taken at before honest no_clash b.small rest w x _ edge_asked all_asked
          on.taken_is done.1;
    })

pub returns-in_err-note-clause-outcome : goal.returns-in_err-note-clause-outcome
returns-in_err-note-clause-outcome g c =
    let p = err_from_is_err_and c.from_residual.result c.from_residual.ensures.1 in
    rw (p.1, p.2)
    (outcome_early g.H.TreeHash.digest _ c.args.mirror.now.view c.in_err-note.field-0.0 c.in_err-note.ensures.early)

pub returns-in_err-rows-clause-outcome : goal.returns-in_err-rows-clause-outcome
returns-in_err-rows-clause-outcome g c =
    let p = err_from_is_err_and c.from_residual-in_err-rows.result c.from_residual-in_err-rows.ensures.1 in
    rw (p.1, p.2)
    (outcome_early g.H.TreeHash.digest _ c.args.mirror.now.view c.in_err-rows.field-0.0 c.in_err-rows.ensures.early)

pub returns-in_err-note-clause-honest : goal.returns-in_err-note-clause-honest
returns-in_err-note-clause-honest g c =
    let p = err_from_is_err_and c.from_residual.result c.from_residual.ensures.1 in
    rw (p.1, p.2)
    (λ entries note size is clean.
    outside c.in_err-note.field-0.0 c.in_err-note.ensures.early c.in_err-note.ensures.late)

pub returns-in_err-rows-clause-counted : goal.returns-in_err-rows-clause-counted
returns-in_err-rows-clause-counted g c =
    let failed = g.S.Source.failed in
    let p = err_from_is_err_and c.from_residual-in_err-rows.result c.from_residual-in_err-rows.ensures.1 in
    rw (p.1, p.2)
    (counts_err (failed c.args.source.now) (failed c.ask.new.source) (failed c.edge_rows.new.source)
    c.in_err-rows.field-0.0 c.in_ok-note.ensures.counted c.in_err-rows.ensures.counted)

pub returns-in_err-rounds-clause-counted : goal.returns-in_err-rounds-clause-counted
returns-in_err-rounds-clause-counted g c =
    let failed = g.S.Source.failed in
    let p = err_from_is_err_and c.from_residual-in_err-rounds.result c.from_residual-in_err-rounds.ensures.1 in
    rw (p.1, p.2)
    (counts_err (failed c.args.source.now) (failed c.edge_rows.new.source) (failed c.work.new.source)
    c.in_err-rounds.field-0.0 (c.in_ok-rows.ensures.counted ∙ c.in_ok-note.ensures.counted)
    c.in_err-rounds.ensures.counted)

pub returns-clause-counted : goal.returns-clause-counted
returns-clause-counted g c =
    c.in_ok-rounds.ensures.counted ∙ (c.in_ok-rows.ensures.counted ∙ c.in_ok-note.ensures.counted)

pub returns-clause-later : goal.returns-clause-later
returns-clause-later g c =
    let may = g.S.Source.may_answer in
    stays_then (may c.args.source.now) (may c.edge_rows.new.source) (may c.work.new.source)
    (stays_then (may c.args.source.now) (may c.ask.new.source) (may c.edge_rows.new.source) c.in_ok-note.ensures.later
    c.in_ok-rows.ensures.later) c.in_ok-rounds.ensures.later

pub returns-in_err-rounds-clause-later : goal.returns-in_err-rounds-clause-later
returns-in_err-rounds-clause-later g c =
    let may = g.S.Source.may_answer in
    stays_then (may c.args.source.now) (may c.edge_rows.new.source) (may c.work.new.source)
    (stays_then (may c.args.source.now) (may c.ask.new.source) (may c.edge_rows.new.source) c.in_ok-note.ensures.later
    c.in_ok-rows.ensures.later) c.in_err-rounds.ensures.later

pub returns-in_err-rows-clause-later : goal.returns-in_err-rows-clause-later
returns-in_err-rows-clause-later g c =
    let may = g.S.Source.may_answer in
    stays_then (may c.args.source.now) (may c.ask.new.source) (may c.edge_rows.new.source) c.in_ok-note.ensures.later
    c.in_err-rows.ensures.later

pub returns-in_err-take_rows-clause-later : goal.returns-in_err-take_rows-clause-later
returns-in_err-take_rows-clause-later g c =
    let may = g.S.Source.may_answer in
    stays_then (may c.args.source.now) (may c.ask.new.source) (may c.edge_rows.new.source) c.in_ok-note.ensures.later
    c.in_ok-rows.ensures.later

pub returns-in_default-clause-later : goal.returns-in_default-clause-later
returns-in_default-clause-later g c = c.in_ok-note.ensures.later

pub returns-in_err-head-clause-later : goal.returns-in_err-head-clause-later
returns-in_err-head-clause-later g c = c.in_ok-note.ensures.later

pub returns-in_err-note-clause-later : goal.returns-in_err-note-clause-later
returns-in_err-note-clause-later g c = c.in_err-note.ensures.later

pub returns-in_default-clause-outcome : goal.returns-in_default-clause-outcome
returns-in_default-clause-outcome g c = refl

pub returns-in_default-clause-counted : goal.returns-in_default-clause-counted
returns-in_default-clause-counted g c = c.in_ok-note.ensures.counted

pub returns-in_err-note-clause-counted : goal.returns-in_err-note-clause-counted
returns-in_err-note-clause-counted g c =
    let p = err_from_is_err_and c.from_residual.result c.from_residual.ensures.1 in
    rw (p.1, p.2) c.in_err-note.ensures.counted

pub returns-in_err-note-clause-once : goal.returns-in_err-note-clause-once
returns-in_err-note-clause-once g c =
    let asked = g.S.Source.asked in
    from_none c.new-asked.result.items (asked c.args.source.now) (asked c.ask.new.source) c.new-asked.ensures.items
    c.in_err-note.ensures.recorded

pub returns-in_default-clause-once : goal.returns-in_default-clause-once
returns-in_default-clause-once g c =
    let asked = g.S.Source.asked in
    from_none c.new-asked.result.items (asked c.args.source.now) (asked c.ask.new.source) c.new-asked.ensures.items
    (some_of c.new-asked.result.items c.ask.new.asked.items (asked c.args.source.now) (asked c.ask.new.source)
    c.in_ok-note.ensures.recorded)

pub returns-in_err-head-clause-once : goal.returns-in_err-head-clause-once
returns-in_err-head-clause-once g c =
    let asked = g.S.Source.asked in
    from_none c.new-asked.result.items (asked c.args.source.now) (asked c.ask.new.source) c.new-asked.ensures.items
    (some_of c.new-asked.result.items c.ask.new.asked.items (asked c.args.source.now) (asked c.ask.new.source)
    c.in_ok-note.ensures.recorded)

pub returns-in_err-note-clause-replies : goal.returns-in_err-note-clause-replies
returns-in_err-note-clause-replies g c =
    let p = err_from_is_err_and c.from_residual.result c.from_residual.ensures.1 in
    let v = c.args.mirror.now.view in
    rw (p.1, p.2)
    (follows_late g.H.TreeHash.digest _ v v (g.S.Source.may_answer c.args.source.now)
    (g.S.Source.asked c.args.source.now) (g.S.Source.asked c.ask.new.source)
    c.in_err-note.field-0.0 c.in_err-note.ensures.late (ends_as c.in_err-note.ensures.replied (λ xs tried u.
    EndsAsking refl (unanswered_as (at_checkpoint v.origin _ c.new-asked.result.items) u))))

pub returns-in_default-clause-replies : goal.returns-in_default-clause-replies
returns-in_default-clause-replies g c =
    replied_first g.H.TreeHash.digest _ c.args.mirror.now.view c.args.mirror.now.view
    (g.S.Source.may_answer c.args.source.now) (g.S.Source.asked c.args.source.now)
    (g.S.Source.asked c.ask.new.source)
    c.new-asked.result.items c.ask.new.asked.items _ None c.new-asked.ensures.items
    (ap (option_map (λ v. v.items)) c.in_default.is) c.in_ok-note.ensures.replied

pub returns-in_err-head-clause-replies : goal.returns-in_err-head-clause-replies
returns-in_err-head-clause-replies g c =
    let p = err_from_is_err_and c.from_residual-in_err-head.result c.from_residual-in_err-head.ensures.1 in
    rw (p.1, p.2)
    (follows_taken g.H.TreeHash.digest _ c.args.mirror.now.view c.args.mirror.now.view
    (g.S.Source.may_answer c.args.source.now) (g.S.Source.asked c.args.source.now)
    (g.S.Source.asked c.ask.new.source)
    refl c.deref.result.now c.in-Some.note.items c.in_err-head.field-0.0 c.deref.ensures.value
    c.in_err-head.ensures.reads
    (replied_first g.H.TreeHash.digest _ c.args.mirror.now.view c.args.mirror.now.view
    (g.S.Source.may_answer c.args.source.now) (g.S.Source.asked c.args.source.now)
    (g.S.Source.asked c.ask.new.source)
    c.new-asked.result.items c.ask.new.asked.items _ (Some c.in-Some.note.items) c.new-asked.ensures.items
    (ap (option_map (λ v. v.items)) c.in-Some.is) c.in_ok-note.ensures.replied))

pub returns-in_err-rows-clause-replies : goal.returns-in_err-rows-clause-replies
returns-in_err-rows-clause-replies g c =
    let p = err_from_is_err_and c.from_residual-in_err-rows.result c.from_residual-in_err-rows.ensures.1 in
    rw (p.1, p.2)
    (follows_edge g.H.TreeHash.digest _ c.args.mirror.now.view c.args.mirror.now.view
    (g.S.Source.may_answer c.args.source.now) (g.S.Source.asked c.args.source.now)
    (g.S.Source.asked c.edge_rows.new.source)
    c.in_err-rows.field-0.0 c.in_err-rows.ensures.early (λ is.
    let all =
    behind_note (g.S.Source.may_answer c.args.source.now) (g.S.Source.may_answer c.ask.new.source)
    (g.S.Source.asked c.args.source.now) (g.S.Source.asked c.ask.new.source) (g.S.Source.asked c.edge_rows.new.source)
    c.new-asked.result.items c.ask.new.asked.items c.edge_rows.new.asked.items c.in-Some.note.items _ (λ asked xs. GivesNoRows asked (edge_of c.in_ok-head.head.checkpoint.size) xs) c.new-asked.ensures.items
    (ap (option_map (λ v. v.items)) c.in-Some.is) c.in_ok-note.ensures.later c.in_ok-note.ensures.replied (c.in_err-rows.ensures.replied.0 is) in
    record {
      note = c.in-Some.note.items;
      checkpoint = c.in_ok-head.head.checkpoint;
      is_open = rw c.deref.ensures.value at c.in_ok-head.ensures.reads;
      edge = all.are.edge;
      not_given = all.are.are;
      replied = replied_of g.H.TreeHash.digest _ c.args.mirror.now.view c.args.mirror.now.view
          (g.S.Source.may_answer c.args.source.now) (g.S.Source.asked c.args.source.now)
          (g.S.Source.asked c.edge_rows.new.source)
          c.new-asked.result.items c.edge_rows.new.asked.items _ all _ all.are.replies_are;
    }) (λ other. ends_as
    (edge_unanswered (g.S.Source.may_answer c.args.source.now) (g.S.Source.may_answer c.ask.new.source)
    (g.S.Source.asked c.args.source.now) (g.S.Source.asked c.ask.new.source) (g.S.Source.asked c.edge_rows.new.source)
    c.new-asked.result.items c.ask.new.asked.items c.in-Some.note.items c.in_ok-note.ensures.later
    c.args.mirror.now.view.origin _ c.in_ok-head.head.checkpoint _ c.in_err-rows.field-0.0
    (rw c.deref.ensures.value at c.in_ok-head.ensures.reads) c.new-asked.ensures.items
    (ap (option_map (λ v. v.items)) c.in-Some.is) c.in_ok-note.ensures.replied (c.in_err-rows.ensures.replied.1 other))
    (λ xs tried u. EndsAsking refl u)))

pub returns-in_err-take_rows-clause-replies : goal.returns-in_err-take_rows-clause-replies
returns-in_err-take_rows-clause-replies g c =
    let p = err_from_is_err_and c.from_residual-in_err-take_rows.result c.from_residual-in_err-take_rows.ensures.1 in
    let same = (c.in_ok-head.ensures.note ∙ c.deref.ensures.value) in
    let are = ap (map (λ row. row.items)) c.deref-2.ensures.value in
    let v = c.args.mirror.now.view in
    let w = c.take_rows.new.mirror.view in
    let note = c.in-Some.note.items in
    let rows = map (λ row. row.items) c.in_ok-rows.rows.items in
    let opens = rw c.deref.ensures.value at c.in_ok-head.ensures.reads in
    let all =
    behind_note (g.S.Source.may_answer c.args.source.now) (g.S.Source.may_answer c.ask.new.source)
    (g.S.Source.asked c.args.source.now) (g.S.Source.asked c.ask.new.source) (g.S.Source.asked c.edge_rows.new.source)
    c.new-asked.result.items c.ask.new.asked.items c.edge_rows.new.asked.items note _
    (λ asked xs. GivesRows asked (edge_of c.in_ok-head.head.checkpoint.size) xs rows) c.new-asked.ensures.items
    (ap (option_map (λ v. v.items)) c.in-Some.is) c.in_ok-note.ensures.later c.in_ok-note.ensures.replied
    c.in_ok-rows.ensures.replied in
    rw (p.1, p.2)
    (follows_head g.H.TreeHash.digest _ v w (g.S.Source.may_answer c.args.source.now)
    (g.S.Source.asked c.args.source.now) (g.S.Source.asked c.edge_rows.new.source) note c.in_ok-head.head.note.bytes rows _
    c.in_err-take_rows.field-0.0 same are (rw (same, are) at (c.in_err-take_rows.ensures.judged _ (open_here _ _ _ c.in_ok-head.head c.in_ok-head.ensures.reads c.in_ok-head.ensures.note _ refl)))
    (c.in_err-take_rows.ensures.takes _ (open_here _ _ _ c.in_ok-head.head c.in_ok-head.ensures.reads c.in_ok-head.ensures.note _ refl)) (λ f judged. record {
      note = note;
      checkpoint = c.in_ok-head.head.checkpoint;
      is_open = opens;
      edge = all.are.edge;
      rows = rows;
      given = all.are.are;
      refused = judged;
      replied = replied_of g.H.TreeHash.digest _ v w (g.S.Source.may_answer c.args.source.now)
          (g.S.Source.asked c.args.source.now) (g.S.Source.asked c.edge_rows.new.source)
          c.new-asked.result.items c.edge_rows.new.asked.items _ all _ all.are.replies_are;
    }) (λ Are given. ends_behind all (λ xs list behind. given xs (record {
      checkpoint = c.in_ok-head.head.checkpoint;
      is_open = opens;
      edge = behind.edge;
      given = behind.are;
      replies_are = behind.replies_are;
    }))))

pub returns-in_err-rounds-clause-replies : goal.returns-in_err-rounds-clause-replies
returns-in_err-rounds-clause-replies g c =
    let p = err_from_is_err_and c.from_residual-in_err-rounds.result c.from_residual-in_err-rounds.ensures.1 in
    let digest = g.H.TreeHash.digest in
    let may = g.S.Source.may_answer in
    let v = c.args.mirror.now.view in
    let x = c.take_rows.new.mirror.view in
    let size = c.in_ok-head.head.checkpoint.size in
    let root = c.in_ok-head.head.checkpoint.root in
    let note = c.in-Some.note.items in
    let rows = map (λ row. row.items) c.in_ok-rows.rows.items in
    let opens = rw c.deref.ensures.value at c.in_ok-head.ensures.reads in
    let opened = opened_head _ _ _ c.in_ok-head.head.checkpoint opens in
    let head =
    has_head digest _ v x x c.in_ok-head.head.note.bytes note _ size root (c.in_ok-head.ensures.note ∙ c.deref.ensures.value)
    (c.in_ok-take_rows.ensures.takes _ (open_here _ _ _ c.in_ok-head.head c.in_ok-head.ensures.reads c.in_ok-head.ensures.note _ refl)).2 opened (within_itself x) in
    let all =
    behind_note (may c.args.source.now) (may c.ask.new.source) (g.S.Source.asked c.args.source.now)
    (g.S.Source.asked c.ask.new.source) (g.S.Source.asked c.edge_rows.new.source)
    c.new-asked.result.items c.ask.new.asked.items c.edge_rows.new.asked.items note _
    (λ asked xs. GivesRows asked (edge_of size) xs rows) c.new-asked.ensures.items
    (ap (option_map (λ v. v.items)) c.in-Some.is) c.in_ok-note.ensures.later c.in_ok-note.ensures.replied
    c.in_ok-rows.ensures.replied in
    rw (p.1, p.2)
    (follows_late digest _ v c.work.new.mirror.view (may c.args.source.now) (g.S.Source.asked c.args.source.now)
    (g.S.Source.asked c.work.new.source) c.in_err-rounds.field-0.0 c.in_err-rounds.ensures.late
    (rounds_stop (may c.args.source.now) (may c.edge_rows.new.source) (g.S.Source.asked c.args.source.now)
    (g.S.Source.asked c.edge_rows.new.source) (g.S.Source.asked c.work.new.source) c.new-asked.result.items
    c.edge_rows.new.asked.items note
    (stays_then (may c.args.source.now) (may c.ask.new.source) (may c.edge_rows.new.source) c.in_ok-note.ensures.later
    c.in_ok-rows.ensures.later)
    digest _ v x c.work.new.mirror.view c.in_ok-head.head.checkpoint rows c.in_err-rounds.field-0.0
    (head_taken digest v x note c.in_ok-head.head.note.bytes rows _ (c.in_ok-head.ensures.note ∙ c.deref.ensures.value)
    (ap (map (λ row. row.items)) c.deref-2.ensures.value) (c.in_ok-take_rows.ensures.takes _ (open_here _ _ _ c.in_ok-head.head c.in_ok-head.ensures.reads c.in_ok-head.ensures.note _ refl)).2) opens all
    (c.in_err-rounds.ensures.replied head)))

pub returns-clause-replies : goal.returns-clause-replies
returns-clause-replies g c =
    let digest = g.H.TreeHash.digest in
    let may = g.S.Source.may_answer in
    let v = c.args.mirror.now.view in
    let x = c.take_rows.new.mirror.view in
    let size = c.in_ok-head.head.checkpoint.size in
    let root = c.in_ok-head.head.checkpoint.root in
    let rows = map (λ row. row.items) c.in_ok-rows.rows.items in
    let opened =
    opened_head _ _ _ c.in_ok-head.head.checkpoint (rw c.deref.ensures.value at c.in_ok-head.ensures.reads) in
    let head =
    has_head digest _ v x x c.in_ok-head.head.note.bytes c.in-Some.note.items _ size root (c.in_ok-head.ensures.note ∙ c.deref.ensures.value)
    (c.in_ok-take_rows.ensures.takes _ (open_here _ _ _ c.in_ok-head.head c.in_ok-head.ensures.reads c.in_ok-head.ensures.note _ refl)).2 opened (within_itself x) in
    let all =
    behind_note (g.S.Source.may_answer c.args.source.now) (g.S.Source.may_answer c.ask.new.source)
    (g.S.Source.asked c.args.source.now) (g.S.Source.asked c.ask.new.source) (g.S.Source.asked c.edge_rows.new.source)
    c.new-asked.result.items c.ask.new.asked.items c.edge_rows.new.asked.items c.in-Some.note.items _ (λ asked xs. GivesRows asked (edge_of size) xs rows) c.new-asked.ensures.items
    (ap (option_map (λ v. v.items)) c.in-Some.is) c.in_ok-note.ensures.later c.in_ok-note.ensures.replied c.in_ok-rows.ensures.replied in
    pulled_by digest _ v x c.work.new.mirror.view (may c.args.source.now) (g.S.Source.asked c.args.source.now)
    (g.S.Source.asked c.work.new.source) c.new-asked.result.items c.work.new.asked.items c.in-Some.note.items
    c.in_ok-head.head.note.bytes rows _ _ (c.in_ok-head.ensures.note ∙ c.deref.ensures.value) (ap (map (λ row. row.items)) c.deref-2.ensures.value)
    (c.in_ok-take_rows.ensures.takes _ (open_here _ _ _ c.in_ok-head.head c.in_ok-head.ensures.reads c.in_ok-head.ensures.note _ refl)).2 opened
    (all_replies (may c.args.source.now) (may c.edge_rows.new.source) (g.S.Source.asked c.args.source.now)
    (g.S.Source.asked c.edge_rows.new.source) (g.S.Source.asked c.work.new.source) c.new-asked.result.items
    c.edge_rows.new.asked.items c.work.new.asked.items c.in-Some.note.items
    (λ edge. GivesRows (Checkpoint ∷ []) (edge_of size) edge rows)
    (λ asked xs. AreWorkedRounds digest size root asked x c.in_ok-rounds.rounds c.in_ok-rounds.refused
    c.work.new.mirror.view xs)
    (stays_then (may c.args.source.now) (may c.ask.new.source) (may c.edge_rows.new.source) c.in_ok-note.ensures.later
    c.in_ok-rows.ensures.later) all (c.in_ok-rounds.ensures.replied head))

pub returns-in_err-note-clause-kept : goal.returns-in_err-note-clause-kept
returns-in_err-note-clause-kept g c =
    kept_honestly g.H.TreeHash.digest g.met.H.TreeHash.digest_length _ c.args.mirror.now.view c.args.mirror.now.view
    (g.S.Source.may_answer c.args.source.now) (g.S.Source.asked c.args.source.now)
    (g.S.Source.asked c.ask.new.source) _ (returns-in_err-note-clause-replies g c)

pub returns-in_default-clause-kept : goal.returns-in_default-clause-kept
returns-in_default-clause-kept g c =
    kept_honestly g.H.TreeHash.digest g.met.H.TreeHash.digest_length _ c.args.mirror.now.view c.args.mirror.now.view
    (g.S.Source.may_answer c.args.source.now) (g.S.Source.asked c.args.source.now)
    (g.S.Source.asked c.ask.new.source) (Err NoCheckpoint) (returns-in_default-clause-replies g c)

pub returns-in_err-head-clause-kept : goal.returns-in_err-head-clause-kept
returns-in_err-head-clause-kept g c =
    kept_honestly g.H.TreeHash.digest g.met.H.TreeHash.digest_length _ c.args.mirror.now.view c.args.mirror.now.view
    (g.S.Source.may_answer c.args.source.now) (g.S.Source.asked c.args.source.now)
    (g.S.Source.asked c.ask.new.source) _ (returns-in_err-head-clause-replies g c)

pub returns-in_err-rows-clause-kept : goal.returns-in_err-rows-clause-kept
returns-in_err-rows-clause-kept g c =
    kept_honestly g.H.TreeHash.digest g.met.H.TreeHash.digest_length _ c.args.mirror.now.view c.args.mirror.now.view
    (g.S.Source.may_answer c.args.source.now) (g.S.Source.asked c.args.source.now)
    (g.S.Source.asked c.edge_rows.new.source) _ (returns-in_err-rows-clause-replies g c)

pub returns-in_err-take_rows-clause-kept : goal.returns-in_err-take_rows-clause-kept
returns-in_err-take_rows-clause-kept g c =
    kept_honestly g.H.TreeHash.digest g.met.H.TreeHash.digest_length _ c.args.mirror.now.view c.take_rows.new.mirror.view
    (g.S.Source.may_answer c.args.source.now) (g.S.Source.asked c.args.source.now)
    (g.S.Source.asked c.edge_rows.new.source) _ (returns-in_err-take_rows-clause-replies g c)

pub returns-in_err-rounds-clause-kept : goal.returns-in_err-rounds-clause-kept
returns-in_err-rounds-clause-kept g c =
    kept_honestly g.H.TreeHash.digest g.met.H.TreeHash.digest_length _ c.args.mirror.now.view c.work.new.mirror.view
    (g.S.Source.may_answer c.args.source.now) (g.S.Source.asked c.args.source.now)
    (g.S.Source.asked c.work.new.source) _ (returns-in_err-rounds-clause-replies g c)

pub returns-clause-kept : goal.returns-clause-kept
returns-clause-kept g c = λ entries note size is clean. tt
