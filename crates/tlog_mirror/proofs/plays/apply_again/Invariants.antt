use Rattle.std.proofs.Common.{◌≡◌, map, length}
use Rattle.mirror_model.specs.Events.{IsFitting}
use Rattle.tlog_mirror.specs.Plays.{RunsOut, all_remembered, origins_of, views_of}
use Rattle.tlog_mirror.proofs.plays.apply_again.Given as goal

-- memory was refused each time
abbrev pub invariant-loop-before : goal.invariant-loop-before
invariant-loop-before g l = record {
  ran_out : RunsOut g.H.TreeHash.digest
      (map (λ b. (goal.Verifier-dyn g (b.vtable, b.value)).key b.value) l.keys) l.before (views_of l.fn.world) l.event
      (views_of l.world);
  origins : origins_of l.world ≡ origins_of l.fn.world;
  remembered : all_remembered l.world ≡ all_remembered l.fn.world;
  fits : IsFitting (length l.world) l.event;
}
