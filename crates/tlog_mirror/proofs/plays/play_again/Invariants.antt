use Rattle.std.proofs.Common.{◌≡◌, ◌≤◌, map, take, length, vec_len, vec_capacity}
use Rattle.mirror_model.specs.Answered.{answer_of}
use Rattle.mirror_model.specs.Events.{Fits}
use Rattle.tlog_mirror.specs.Plays.{JudgesEvents, RunsWithin, all_remembered, origins_of, views_of}
use Rattle.tlog_mirror.proofs.plays.play_again.Given as goal

-- the events so far have run, and there is room for the answers of the others
abbrev pub invariant-loop-event : goal.invariant-loop-event
invariant-loop-event g l = record {
  run : RunsWithin g.H.TreeHash.digest (map (λ b. (goal.Verifier-dyn g (b.vtable, b.value)).key b.value) l.keys) l.tries
      (views_of l.fn.world) (take l.event-index l.events) (map answer_of l.answers.items) (views_of l.world);
  judged : JudgesEvents g.H.TreeHash.digest (map (λ b. (goal.Verifier-dyn g (b.vtable, b.value)).key b.value) l.keys)
      (origins_of l.fn.world) (take l.event-index l.events) l.answers.items;
  origins : origins_of l.world ≡ origins_of l.fn.world;
  remembered : all_remembered l.world ≡ all_remembered l.fn.world;
  fits : Fits l.events (length l.world);
  count : vec_len l.answers ≡ l.event-index;
  room : length l.events ≤ vec_capacity l.answers;
}
