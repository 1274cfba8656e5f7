use Rattle.std.proofs.Common.{◌<◌, ℕ, List}
use Rattle.log_reader.specs.Verified.{Verifies}
use Rattle.copy_places.specs.Asked.{IsAskedInTurn}
use Rattle.copy_places.specs.AskedEnds.{AsksEnds, IsKeptInVain}
use Rattle.copy_places.proofs.kept.kept_file.Given as goal

-- the places so far do not have the file
abbrev pub invariant-loop-turn : goal.invariant-loop-turn
invariant-loop-turn g l = record {
  goes : AsksEnds g.S.Source.may_answer g.S.Source.failed g.S.Source.asked l.fn.places l.places;
  none : (turn k : ℕ) → turn < l.turn → IsAskedInTurn l.first turn k → IsKeptInVain l.places.ends.tiles.items k l.path
      (λ bytes. (row : List (List ℕ)) × Verifies g.H.TreeHash.digest l.kind l.hash bytes row);
}
