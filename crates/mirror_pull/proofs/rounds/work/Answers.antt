use Rattle.std.proofs.Common.{arith, sym, ◌≤◌, ◌+◌, ◌≡◌, length, ◌∙◌, refl}
use Rattle.std.proofs.lemmas.Result.{err_from_is_err_and}
use Rattle.mirror_pull.proofs.Askings.{adds_some_then, adds_to_then, adds_to_none}
use Rattle.mirror_pull.proofs.Gains.{stays_then, stays_itself, counts_err, gains_then, gains_itself}
use Rattle.mirror_model.proofs.Views.{head_stays}
use Rattle.mirror_pull.specs.Replying.{IsLeftToAsk, IsInRounds, StopsTaking}
use Rattle.mirror_pull.proofs.Early.{ends_then, ends_behind, stops_then, rounds_over, round_under}
use Rattle.mirror_pull.proofs.Replies.{AreRoundsSoFar, gathers_as, gathers_then, gathers_none, rounds_none, rounds_step}
use Rattle.mirror_pull.proofs.Replies.{rounds_ended, rounds_eight}
use Rattle.mirror_pull.proofs.Orders.{none_if, some_if}
use Rattle.mirror_pull.proofs.TrueWork.{wanted_front, round_may, work_none, work_step, work_done, never_eight}
use Rattle.mirror_pull.proofs.rounds.work.Goals as goal

pub returns-in_err-more-clause-recorded : goal.returns-in_err-more-clause-recorded
returns-in_err-more-clause-recorded g c =
    let asked = g.S.Source.asked in
    let p = err_from_is_err_and c.from_residual-in_err-more.result c.from_residual-in_err-more.ensures.1 in
    rw p.1 (adds_some_then c.args.asked.now.items c.loop-rounds.asked.items (asked c.args.source.now)
    (asked c.loop-rounds.source)
    (asked c.work_noted.new.source) c.loop-rounds.invariant.recorded c.in_err-more.ensures.recorded)

pub returns-in_err-more-clause-counted : goal.returns-in_err-more-clause-counted
returns-in_err-more-clause-counted g c =
    let failed = g.S.Source.failed in
    let p = err_from_is_err_and c.from_residual-in_err-more.result c.from_residual-in_err-more.ensures.1 in
    rw (p.1, p.2)
    (counts_err (failed c.args.source.now) (failed c.loop-rounds.source)
    (failed c.work_noted.new.source)
    c.in_err-more.field-0.0 c.loop-rounds.invariant.counted c.in_err-more.ensures.counted)

pub returns-in_err-more-clause-later : goal.returns-in_err-more-clause-later
returns-in_err-more-clause-later g c =
    let may = g.S.Source.may_answer in
    stays_then (may c.args.source.now) (may c.loop-rounds.source)
    (may c.work_noted.new.source) c.loop-rounds.invariant.later c.in_err-more.ensures.later

pub returns-in_err-more-clause-late : goal.returns-in_err-more-clause-late
returns-in_err-more-clause-late g c =
    let p = err_from_is_err_and c.from_residual-in_err-more.result c.from_residual-in_err-more.ensures.1 in rw
    (p.1, p.2) c.in_err-more.ensures.late

pub loop-rounds-preserved : goal.loop-rounds-preserved
loop-rounds-preserved g c =
    let asked = g.S.Source.asked in
    let may = g.S.Source.may_answer in
    let long = some_if c.in_ok-paths.paths.len (sym c.is_empty.ensures ∙ c.if-is_empty.false) in
    let some : 1 ≤ length c.in_ok-paths.paths.items = omega (arith, long, c.in_ok-paths.paths.ok.0) in
    record {
      recorded = adds_to_then c.args.asked.now.items c.loop-rounds.asked.items c.work_noted.new.asked.items
          (asked c.args.source.now) (asked c.loop-rounds.source)
          (asked c.work_noted.new.source) c.loop-rounds.invariant.recorded c.in_ok-more.ensures.recorded;
      counted = c.in_ok-more.ensures.counted ∙ c.loop-rounds.invariant.counted;
      later = stays_then (may c.args.source.now) (may c.loop-rounds.source)
          (may c.work_noted.new.source) c.loop-rounds.invariant.later c.in_ok-more.ensures.later;
      replied = λ head.
          let digest = g.H.TreeHash.digest in
          let x = c.loop-rounds.mirror.view in
          let now =
          head_stays c.args.mirror.now.view x c.loop-rounds.invariant.gains.grows c.args.size c.args.root.now head in
          gathers_then
          (λ xs. AreRoundsSoFar digest c.args.size c.args.root.now c.args.asked.now.items c.args.mirror.now.view
          (c.loop-rounds.rounds + 1) c.saturating_add-refused.result c.work_noted.new.mirror.view xs)
          c.loop-rounds.invariant.later (c.loop-rounds.invariant.replied head) c.in_ok-more.ensures.replied
          (λ xs ys grown list p q. rounds_step digest c.args.size c.args.root.now c.args.asked.now.items
          c.loop-rounds.asked.items c.loop-rounds.asked.items c.in_ok-paths.paths.items c.deref.result.now
          c.args.mirror.now.view x c.work_noted.new.mirror.view c.loop-rounds.rounds c.loop-rounds.refused
          c.in_ok-more.more c.saturating_add-refused.result xs ys c.saturating_add-refused.ensures grown
          refl c.deref.ensures.value some p (c.in_ok-paths.ensures.left now) q);
      honest = λ entries m.
          let digest = g.H.TreeHash.digest in
          let before = c.loop-rounds.invariant.honest entries m in
          let wants : IsLeftToAsk digest c.args.size c.args.root.now
          c.loop-rounds.asked.items c.loop-rounds.mirror.view c.in_ok-paths.paths.items =
          c.in_ok-paths.ensures.left before.1.next.head in
          let fronts =
          wanted_front digest entries c.args.size c.args.root.now
          (may c.loop-rounds.source) c.loop-rounds.mirror.view c.loop-rounds.asked.items before.1.next
          c.in_ok-paths.paths.items wants in
          let may_take =
          round_may digest entries c.args.size c.args.root.now
          (may c.loop-rounds.source) c.loop-rounds.mirror.view c.loop-rounds.asked.items before.1.next
          c.in_ok-paths.paths.items fronts in
          let took =
          rw c.deref.ensures.value at c.in_ok-more.ensures.honest entries c.args.size may_take in (
            omega (arith, c.saturating_add-refused.ensures, before.0, took.0),
            work_step digest entries c.args.size c.args.root.now (may c.args.source.now)
                (may c.loop-rounds.source) c.args.mirror.now.view c.loop-rounds.mirror.view
                c.args.asked.now.items c.loop-rounds.asked.items c.loop-rounds.rounds
                (may c.work_noted.new.source) c.work_noted.new.mirror.view c.work_noted.new.asked.items
                c.in_ok-paths.paths.items c.loop-rounds.invariant.later before.1 wants some c.in_ok-more.ensures.later
                c.in_ok-more.ensures.gains.grows took.1,
          );
      gains = gains_then c.args.mirror.now.view c.loop-rounds.mirror.view c.work_noted.new.mirror.view
          c.loop-rounds.invariant.gains c.in_ok-more.ensures.gains;
    }

pub loop-rounds-init : goal.loop-rounds-init
loop-rounds-init g c =
    record {
      recorded = adds_to_none c.args.asked.now.items (g.S.Source.asked c.args.source.now);
      counted = refl;
      later = stays_itself (g.S.Source.may_answer c.args.source.now);
      replied = λ head. gathers_none (g.S.Source.may_answer c.args.source.now) (g.S.Source.asked c.args.source.now)
          c.args.asked.now.items
          (λ xs. AreRoundsSoFar g.H.TreeHash.digest c.args.size c.args.root.now c.args.asked.now.items
          c.args.mirror.now.view 0 0 c.args.mirror.now.view xs)
          (rounds_none g.H.TreeHash.digest c.args.size c.args.root.now c.args.asked.now.items c.args.mirror.now.view);
      honest = λ entries m. (
        refl,
        work_none g.H.TreeHash.digest entries c.args.size c.args.root.now
            (g.S.Source.may_answer c.args.source.now) c.args.mirror.now.view c.args.asked.now.items m,
      );
      gains = gains_itself c.args.mirror.now.view;
    }

pub returns-in_err-more-clause-gains : goal.returns-in_err-more-clause-gains
returns-in_err-more-clause-gains g c =
    gains_then c.args.mirror.now.view c.loop-rounds.mirror.view c.work_noted.new.mirror.view
    c.loop-rounds.invariant.gains c.in_err-more.ensures.gains

pub returns-then-is_empty-clause-honest : goal.returns-then-is_empty-clause-honest
returns-then-is_empty-clause-honest g c =
    λ entries m.
    let digest = g.H.TreeHash.digest in
    let may = g.S.Source.may_answer c.loop-rounds.source in
    let before = c.loop-rounds.invariant.honest entries m in
    let wants : IsLeftToAsk digest c.args.size c.args.root.now c.loop-rounds.asked.items c.loop-rounds.mirror.view
    c.in_ok-paths.paths.items = c.in_ok-paths.ensures.left before.1.next.head in (
      before.0,
      work_done digest entries c.args.size c.args.root.now (g.S.Source.may_answer c.args.source.now) may
          c.args.mirror.now.view c.loop-rounds.mirror.view
          c.args.asked.now.items c.loop-rounds.asked.items c.loop-rounds.rounds c.in_ok-paths.paths.items before.1 wants
          (sym c.in_ok-paths.paths.ok.0
          ∙ none_if c.in_ok-paths.paths.len (sym c.is_empty.ensures ∙ c.if-is_empty.true)),
    )

pub returns-clause-honest : goal.returns-clause-honest
returns-clause-honest g c =
    λ entries m.
    let may = g.S.Source.may_answer in
    absurd (never_eight g.H.TreeHash.digest entries c.args.size c.args.root.now (may c.args.source.now)
    (may c.loop-rounds.source) c.args.mirror.now.view c.loop-rounds.mirror.view
    c.args.asked.now.items c.loop-rounds.asked.items c.loop-rounds.rounds c.loop-rounds-test.false m
    (c.loop-rounds.invariant.honest entries m).1)

pub returns-in_err-more-clause-honest : goal.returns-in_err-more-clause-honest
returns-in_err-more-clause-honest g c =
    let may = g.S.Source.may_answer in
    let p = err_from_is_err_and c.from_residual-in_err-more.result c.from_residual-in_err-more.ensures.1 in
    rw (p.1, p.2) (λ entries m.
    let digest = g.H.TreeHash.digest in
    let before = c.loop-rounds.invariant.honest entries m in
    let wants : IsLeftToAsk digest c.args.size c.args.root.now c.loop-rounds.asked.items c.loop-rounds.mirror.view
    c.in_ok-paths.paths.items = c.in_ok-paths.ensures.left before.1.next.head in
    let fronts =
    wanted_front digest entries c.args.size c.args.root.now
    (may c.loop-rounds.source) c.loop-rounds.mirror.view c.loop-rounds.asked.items before.1.next
    c.in_ok-paths.paths.items wants in
    let may_take =
    round_may digest entries c.args.size c.args.root.now
    (may c.loop-rounds.source) c.loop-rounds.mirror.view c.loop-rounds.asked.items before.1.next
    c.in_ok-paths.paths.items fronts in
    c.in_err-more.ensures.honest entries c.args.size (rw c.deref.ensures.value may_take))

pub returns-then-is_empty-clause-replied : goal.returns-then-is_empty-clause-replied
returns-then-is_empty-clause-replied g c =
    λ head.
    let x = c.loop-rounds.mirror.view in
    let now =
    head_stays c.args.mirror.now.view x c.loop-rounds.invariant.gains.grows c.args.size c.args.root.now head in
    gathers_as (c.loop-rounds.invariant.replied head) (λ xs grown p.
    rounds_ended g.H.TreeHash.digest c.args.size c.args.root.now c.args.asked.now.items c.loop-rounds.asked.items
    c.loop-rounds.asked.items c.in_ok-paths.paths.items c.args.mirror.now.view x c.loop-rounds.rounds c.loop-rounds.refused xs
    grown refl
    (sym c.in_ok-paths.paths.ok.0 ∙ none_if c.in_ok-paths.paths.len (sym c.is_empty.ensures ∙ c.if-is_empty.true)) p
    (c.in_ok-paths.ensures.left now))

pub returns-clause-replied : goal.returns-clause-replied
returns-clause-replied g c =
    λ head.
    let is : c.loop-rounds.rounds ≡ 8 = omega (arith, c.loop-rounds-test.false, c.loop-rounds.auto.rounds-end) in
    gathers_as (c.loop-rounds.invariant.replied head) (λ xs grown p.
    rounds_eight g.H.TreeHash.digest c.args.size c.args.root.now c.args.asked.now.items c.args.mirror.now.view
    c.loop-rounds.mirror.view c.loop-rounds.rounds 8 c.loop-rounds.refused xs is refl p)

pub returns-in_err-paths-clause-replied : goal.returns-in_err-paths-clause-replied
returns-in_err-paths-clause-replied g c =
    let p = err_from_is_err_and c.from_residual.result c.from_residual.ensures.1 in
    rw (p.1, p.2) (λ head. ends_behind (c.loop-rounds.invariant.replied head) (λ xs grown a.
    rounds_over g.H.TreeHash.digest c.args.size c.args.root.now c.args.asked.now.items c.args.mirror.now.view
    c.loop-rounds.mirror.view c.loop-rounds.rounds c.loop-rounds.refused xs c.loop-rounds-test.true a))

pub returns-in_err-more-clause-replied : goal.returns-in_err-more-clause-replied
returns-in_err-more-clause-replied g c =
    let digest = g.H.TreeHash.digest in
    let p = err_from_is_err_and c.from_residual-in_err-more.result c.from_residual-in_err-more.ensures.1 in
    rw (p.1, p.2) (λ head.
    let x = c.loop-rounds.mirror.view in
    let now =
    head_stays c.args.mirror.now.view x c.loop-rounds.invariant.gains.grows c.args.size c.args.root.now head in
    ends_then
    (λ xs tried. StopsTaking digest
    (IsInRounds digest c.args.size c.args.root.now c.args.asked.now.items c.args.mirror.now.view)
    c.in_err-more.field-0.0 xs tried c.work_noted.new.mirror.view)
    c.loop-rounds.invariant.later (c.loop-rounds.invariant.replied head) c.in_err-more.ensures.replied
    (λ xs ys tried grown a stops. stops_then xs (λ rs w next q.
    round_under digest c.args.size c.args.root.now c.args.asked.now.items c.loop-rounds.asked.items
    c.in_ok-paths.paths.items c.deref.result.now c.args.mirror.now.view x w c.loop-rounds.rounds c.loop-rounds.refused
    xs rs next c.loop-rounds-test.true grown c.deref.ensures.value a (c.in_ok-paths.ensures.left now) q) stops))
