use Rattle.std.proofs.Common.{All, ◌≡◌, ◌<◌, ℕ, get_or, length}
use Rattle.copy_places.specs.AskedEnds.{AsksEnds, IsEndSize}
use Rattle.copy_places.specs.Mixes.{HaveNoMix, HaveWidths}
use Rattle.copy_places.specs.declared.mix.GivenRows.{GivenRows}
use Rattle.copy_places.proofs.KeptRows.{AreOfTurns}
use Rattle.copy_places.proofs.kept.kept_edge.Given as goal

-- the rows of the places so far have the widths of their levels, and come from the kept answers. Those of no place lead to the root
abbrev pub invariant-loop-turn : goal.invariant-loop-turn
invariant-loop-turn g l = record {
  goes : AsksEnds g.S.Source.may_answer g.S.Source.failed g.S.Source.asked l.fn.places l.places;
  end : IsEndSize l.places l.size;
  wide : All (HaveWidths l.size) l.given.items;
  long : length l.given.items ≡ l.turn;
  kept : AreOfTurns l.size l.places.ends.tiles.items l.first l.turn l.given.items;
  alone : (t : ℕ) (d : GivenRows) → t < l.turn →
      HaveNoMix g.H.TreeHash.digest l.size l.root (get_or l.given.items t d) (get_or l.given.items t d);
}
