use Rattle.std.proofs.Common.{All, take}
use Rattle.mirror_pull.specs.Taking.{IsTakeable}
use Rattle.mirror_pull.specs.Replying.{AreUnasked}
use Rattle.mirror_pull.proofs.rounds.paths_to_ask.Given as goal

abbrev pub invariant-loop-path : goal.invariant-loop-path
invariant-loop-path g l = record {
  takeable : All IsTakeable l.paths.items;
  unasked : AreUnasked l.asked.items (take l.path-index l.path-items) l.paths.items;
}
