use Rattle.std.proofs.Common.{◌≡◌, map, take, subst, ◌∙◌, arith}
use Rattle.std.proofs.lemmas.List.{take_all}
use Rattle.mirror_model.specs.Answered.{answer_of}
use Rattle.tlog_mirror.specs.Plays.{RunsWithin, origins_of, views_of}
use Rattle.tlog_mirror.proofs.PlayedEvents.{within_more, runs_once}
use Rattle.tlog_mirror.proofs.JudgedEvents.{judged_more}
use Rattle.tlog_mirror.proofs.plays.play_again.Goals as goal

pub loop-event-preserved : goal.loop-event-preserved
loop-event-preserved g c = record {
  run = within_more g.H.TreeHash.digest
      (map (λ b. (goal.Verifier-dyn g (
        b.vtable,
        b.value,
      )).key b.value) c.args.keys.now) answer_of c.args.events.now c.loop-event.event-index c.event-item.result
      c.loop-event-test.true c.event-item.is
      c.args.tries (views_of c.args.world.now) (views_of c.loop-event.world)
      (views_of c.apply_again-answer.new.world) c.loop-event.answers.items
      c.push.new.self.items c.apply_again-answer.result c.in-Ok.ensures.items c.loop-event.invariant.run
      c.apply_again-answer.ensures.happens;
  judged = judged_more g.H.TreeHash.digest
      (map (λ b. (goal.Verifier-dyn g (b.vtable, b.value)).key b.value) c.args.keys.now)
      (origins_of c.args.world.now) c.args.events.now
      c.loop-event.event-index c.event-item.result c.loop-event-test.true c.event-item.is c.loop-event.answers.items
      c.push.new.self.items c.apply_again-answer.result c.in-Ok.ensures.items c.loop-event.invariant.judged
      (rw c.loop-event.invariant.origins at c.apply_again-answer.ensures.judged);
  origins = c.apply_again-answer.ensures.origins ∙ c.loop-event.invariant.origins;
  remembered = c.apply_again-answer.ensures.remembered ∙ c.loop-event.invariant.remembered;
  fits = rw c.apply_again-answer.auto.world c.loop-event.invariant.fits;
  count = omega (arith, c.in-Ok.ensures.len);
  room = omega arith;
}

pub returns-clause-run : goal.returns-clause-run
returns-clause-run g c =
    let keys = (map (λ b. (goal.Verifier-dyn g (b.vtable, b.value)).key b.value) c.args.keys.now) in
    let es = c.args.events.now in
    let whole : take c.loop-event.event-index es ≡ es = take_all c.loop-event.event-index es (omega arith) in
    runs_once g.H.TreeHash.digest keys c.args.tries (views_of c.args.world.now) (views_of c.loop-event.world) es
    (map answer_of c.loop-event.answers.items)
    (subst (λ xs. RunsWithin g.H.TreeHash.digest keys c.args.tries (views_of c.args.world.now) xs
    (map answer_of c.loop-event.answers.items) (views_of c.loop-event.world)) whole c.loop-event.invariant.run)

pub returns-clause-tried : goal.returns-clause-tried
returns-clause-tried g c =
    rw (take_all c.loop-event.event-index c.args.events.now (omega arith)) at c.loop-event.invariant.run

pub returns-clause-judged : goal.returns-clause-judged
returns-clause-judged g c =
    rw (take_all c.loop-event.event-index c.args.events.now (omega arith)) at c.loop-event.invariant.judged

pub returns-clause-remembered : goal.returns-clause-remembered
returns-clause-remembered g c = c.loop-event.invariant.remembered

pub apply_again-answer-requires-clause-fits : goal.apply_again-answer-requires-clause-fits
apply_again-answer-requires-clause-fits g c =
    rw c.event-item.is
    (c.loop-event.invariant.fits c.loop-event.event-index c.event-item.result c.loop-event-test.true)
