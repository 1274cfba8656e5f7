use Rattle.std.proofs.Common.{◌≢◌, ◌<◌, ℕ, List, length}
use Rattle.log_reader.specs.Verified.{HasLeaves}
use Rattle.mirror_sources.specs.Files.{full_of}
use Rattle.copy_places.specs.Asked.{IsAskedInTurn, IsPathOrFull}
use Rattle.mirror_model.specs.TrueLaws.{AreShort}
use Rattle.copy_places.specs.AskedOnce.{AsksOnce, IsBeforeTurn}
use Rattle.copy_places.specs.InVain.{AtPlace, IsPartAskedInVain}
use Rattle.copy_places.specs.PlaceGets.{AsksPlaces, IsBlamed}
use Rattle.copy_places.specs.TruePlaces.{IsTruePlace}
use Rattle.copy_places.specs.TrueAnswers.{HasTrueLeaves}
use Rattle.copy_places.proofs.bundle.bundle_at_places.Given as goal

abbrev pub invariant-loop-turn : goal.invariant-loop-turn
invariant-loop-turn g l = record {
  asks : AsksPlaces g.S.Source.may_answer g.S.Source.failed g.S.Source.asked (IsPathOrFull l.path) l.fn.places l.places;
  once : l.path ≢ full_of l.path → AsksOnce g.S.Source.asked (IsBeforeTurn l.first l.turn (IsPathOrFull l.path)) l.fn.places l.places;
  honest : (turn k : ℕ) → turn < l.turn → IsAskedInTurn l.first turn k → (entries : List (List ℕ)) →
      AreShort entries → HasTrueLeaves g.H.TreeHash.digest entries l.path l.row →
      IsTruePlace g.H.TreeHash.digest entries g.S.Source.may_answer l.fn.places l.places k → ⊥;
  none : (turn k : ℕ) → turn < l.turn → IsAskedInTurn l.first turn k → AtPlace g.S.Source.may_answer l.fn.places l.places k
      (IsPartAskedInVain l.path (λ bytes. HasLeaves g.H.TreeHash.digest (length l.row) bytes l.row));
  blamed : (turn k : ℕ) → turn < l.turn → IsAskedInTurn l.first turn k → IsBlamed l.fn.places l.places k;
}
