use Rattle.std.proofs.Common.{arith, ◌∙◌, refl, take, ◌+◌, [], ap}
use Rattle.std.proofs.lemmas.Result.{err_from_is_err_and}
use Rattle.mirror_pull.proofs.Askings.{adds_some_then, adds_to_then, adds_to_none}
use Rattle.mirror_pull.proofs.Gains.{stays_then, stays_itself, counts_err, gains_then, gains_itself}
use Rattle.mirror_pull.proofs.TrueTakes.{round_next, round_step, round_none, round_whole}
use Rattle.mirror_pull.specs.Replying.{IsWorkedList, IsInRound, StopsTaking, one_if}
use Rattle.mirror_pull.proofs.Early.{ends_then, stops_then, in_round}
use Rattle.mirror_pull.proofs.Replies.{gathers_as, gathers_then, gathers_none, list_none, list_step, list_whole}
use Rattle.mirror_pull.proofs.rounds.work_round.Goals.{then-branch, else-branch}
use Rattle.mirror_pull.proofs.rounds.work_round.Goals as goal

pub returns-in_err-take_next-clause-recorded : goal.returns-in_err-take_next-clause-recorded
returns-in_err-take_next-clause-recorded g c =
    let asked = g.S.Source.asked in
    let p = err_from_is_err_and c.from_residual.result c.from_residual.ensures.1 in
    rw p.1 (adds_some_then c.args.asked.now.items c.loop-path.asked.items (asked c.args.source.now)
    (asked c.loop-path.source)
    (asked c.take_next.new.source) c.loop-path.invariant.recorded c.in_err-take_next.ensures.recorded)

pub returns-in_err-take_next-clause-counted : goal.returns-in_err-take_next-clause-counted
returns-in_err-take_next-clause-counted g c =
    let failed = g.S.Source.failed in
    let p = err_from_is_err_and c.from_residual.result c.from_residual.ensures.1 in
    rw (p.1, p.2)
    (counts_err (failed c.args.source.now) (failed c.loop-path.source)
    (failed c.take_next.new.source)
    c.in_err-take_next.field-0.0 c.loop-path.invariant.counted c.in_err-take_next.ensures.counted)

pub returns-in_err-take_next-clause-later : goal.returns-in_err-take_next-clause-later
returns-in_err-take_next-clause-later g c =
    let may = g.S.Source.may_answer in
    stays_then (may c.args.source.now) (may c.loop-path.source)
    (may c.take_next.new.source) c.loop-path.invariant.later c.in_err-take_next.ensures.later

pub returns-in_err-take_next-clause-late : goal.returns-in_err-take_next-clause-late
returns-in_err-take_next-clause-late g c =
    let p = err_from_is_err_and c.from_residual.result c.from_residual.ensures.1 in rw
    (p.1, p.2) c.in_err-take_next.ensures.late

pub loop-path-preserved : goal.loop-path-preserved
loop-path-preserved g c =
    let asked = g.S.Source.asked in
    let may = g.S.Source.may_answer in
    record {
      recorded = adds_to_then c.args.asked.now.items c.loop-path.asked.items c.take_next.new.asked.items
          (asked c.args.source.now) (asked c.loop-path.source)
          (asked c.take_next.new.source) c.loop-path.invariant.recorded c.in_ok-take_next.ensures.recorded;
      counted = c.in_ok-take_next.ensures.counted ∙ c.loop-path.invariant.counted;
      later = stays_then (may c.args.source.now) (may c.loop-path.source)
          (may c.take_next.new.source) c.loop-path.invariant.later c.in_ok-take_next.ensures.later;
      replied = gathers_then
          (λ xs. IsWorkedList g.H.TreeHash.digest c.args.asked.now.items c.args.mirror.now.view
          (take (c.loop-path.path-index + 1) c.args.paths.now) c.if-branch.refused c.take_next.new.mirror.view xs)
          c.loop-path.invariant.later c.loop-path.invariant.replied c.in_ok-take_next.ensures.replied
          (λ xs ys grown list p q. list_step g.H.TreeHash.digest c.args.asked.now.items c.loop-path.asked.items
          c.args.paths.now c.loop-path.path-index c.args.mirror.now.view c.loop-path.mirror.view
          c.take_next.new.mirror.view c.loop-path.refused c.if-branch.refused _ xs ys c.loop-path-test.true
          (elim c.if-branch.branch [
            | then-branch w ↦ omega
                (arith, w.refused-is, w.saturating_add-refused.ensures, ap one_if w.if-branch.true)
            | else-branch w ↦ omega (arith, w.refused-is, ap one_if w.if-branch.false, p.refused_is)
          ]) grown p q);
      honest = λ entries size m.
          let digest = g.H.TreeHash.digest in
          let before = c.loop-path.invariant.honest entries size m in
          let next =
          round_next digest entries size (may c.args.source.now)
          (may c.loop-path.source) c.args.mirror.now.view c.loop-path.mirror.view c.args.asked.now.items
          c.loop-path.asked.items c.args.paths.now c.loop-path.path-index c.loop-path.invariant.later
          c.loop-path-test.true m before.1 in
          let took = c.in_ok-take_next.ensures.honest entries size next in
          let not_refused = took.0 in (
            elim c.if-branch.branch [
              | then-branch w ↦
                  (let refused = w.if-branch.true in absurd cc)
              | else-branch w ↦ w.refused-is ∙ before.0
            ],
            round_step digest entries size (may c.args.source.now) (may c.loop-path.source)
                c.args.mirror.now.view c.loop-path.mirror.view c.take_next.new.mirror.view
                c.args.asked.now.items c.loop-path.asked.items c.take_next.new.asked.items c.args.paths.now
                c.loop-path.path-index c.loop-path.invariant.later c.loop-path-test.true before.1 took.1,
          );
      gains = gains_then c.args.mirror.now.view c.loop-path.mirror.view c.take_next.new.mirror.view
          c.loop-path.invariant.gains c.in_ok-take_next.ensures.gains;
    }

pub loop-path-init : goal.loop-path-init
loop-path-init g c =
    record {
      recorded = adds_to_none c.args.asked.now.items (g.S.Source.asked c.args.source.now);
      counted = refl;
      later = stays_itself (g.S.Source.may_answer c.args.source.now);
      replied = gathers_none (g.S.Source.may_answer c.args.source.now) (g.S.Source.asked c.args.source.now)
          c.args.asked.now.items
          (λ xs. IsWorkedList g.H.TreeHash.digest c.args.asked.now.items c.args.mirror.now.view [] 0
          c.args.mirror.now.view xs) (list_none g.H.TreeHash.digest c.args.asked.now.items c.args.mirror.now.view);
      honest = λ entries size m. (
        refl,
        round_none g.H.TreeHash.digest entries size (g.S.Source.may_answer c.args.source.now)
            c.args.mirror.now.view c.args.asked.now.items,
      );
      gains = gains_itself c.args.mirror.now.view;
    }

pub returns-in_err-take_next-clause-gains : goal.returns-in_err-take_next-clause-gains
returns-in_err-take_next-clause-gains g c =
    gains_then c.args.mirror.now.view c.loop-path.mirror.view c.take_next.new.mirror.view c.loop-path.invariant.gains
    c.in_err-take_next.ensures.gains

pub returns-in_err-take_next-clause-honest : goal.returns-in_err-take_next-clause-honest
returns-in_err-take_next-clause-honest g c =
    let may = g.S.Source.may_answer in
    let p = err_from_is_err_and c.from_residual.result c.from_residual.ensures.1 in
    rw (p.1, p.2)
    (λ entries size m. c.in_err-take_next.ensures.honest entries size
    (round_next g.H.TreeHash.digest entries size (may c.args.source.now)
    (may c.loop-path.source) c.args.mirror.now.view c.loop-path.mirror.view c.args.asked.now.items
    c.loop-path.asked.items c.args.paths.now c.loop-path.path-index c.loop-path.invariant.later
    c.loop-path-test.true m (c.loop-path.invariant.honest entries size m).1))

pub returns-clause-honest : goal.returns-clause-honest
returns-clause-honest g c =
    λ entries size m. let h =
    c.loop-path.invariant.honest entries size m in (
      h.0,
      round_whole g.H.TreeHash.digest entries size (g.S.Source.may_answer c.args.source.now) c.args.mirror.now.view
          c.loop-path.mirror.view c.args.asked.now.items c.loop-path.asked.items c.args.paths.now c.loop-path.path-index
          c.loop-path-test.false h.1,
    )

pub returns-clause-replied : goal.returns-clause-replied
returns-clause-replied g c =
    gathers_as c.loop-path.invariant.replied (λ xs list p.
    list_whole g.H.TreeHash.digest c.args.asked.now.items c.args.paths.now c.loop-path.path-index c.args.mirror.now.view
    c.loop-path.mirror.view c.loop-path.refused xs c.loop-path-test.false p)

pub returns-in_err-take_next-clause-replied : goal.returns-in_err-take_next-clause-replied
returns-in_err-take_next-clause-replied g c =
    let p = err_from_is_err_and c.from_residual.result c.from_residual.ensures.1 in
    rw (p.1, p.2) (ends_then
    (λ xs tried. StopsTaking g.H.TreeHash.digest
    (IsInRound g.H.TreeHash.digest c.args.asked.now.items c.args.paths.now c.args.mirror.now.view)
    c.in_err-take_next.field-0.0 xs tried c.take_next.new.mirror.view)
    c.loop-path.invariant.later c.loop-path.invariant.replied c.in_err-take_next.ensures.replied
    (λ xs ys tried grown a stops. stops_then xs (λ rs w next q.
    in_round g.H.TreeHash.digest c.args.asked.now.items c.loop-path.asked.items c.args.paths.now
    c.loop-path.path-index c.args.mirror.now.view c.loop-path.mirror.view w c.loop-path.refused xs rs next
    c.loop-path-test.true grown a q) stops))
