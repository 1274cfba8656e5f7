-- A run of turns, turn after turn.
use Rattle.std.proofs.Common.{◌≡◌, ℕ, List, [], Option, IfSome, refl, sym, subst, ◌∙◌}
use Rattle.std.proofs.lemmas.List.Elements.{All-nil}
use Rattle.mirror_folders.specs.Shelf.{Put}
use Rattle.copy_places.specs.Shown.{ShowsEach, ShowsLine}
use Rattle.copy_places.specs.declared.candidate.Candidate.{Candidate}
use Rattle.copy_follow.specs.RunStanding.{IsCopyOfRun, IsHeadOf, KnowsAfter, StandsAfter, size_of_copy}
use Rattle.copy_follow.specs.Turning.{ContinuesRun, IsRunFrom}
use Rattle.copy_follow.specs.declared.run.Run.{Run}
use Rattle.copy_follow.specs.declared.run.Outcome.{Outcome}
use Rattle.copy_follow.proofs.Standing.{head_after, known_after}

module _ (digest : List ℕ → List ℕ) (origin : List ℕ) where
  -- the run before its first turn
  pub run_first : (x : Option (List Put)) (copy : Option Candidate) (run : Run) → run.copy ≡ copy →
      IfSome copy (IsHeadOf origin) → run.had ≡ size_of_copy copy →
      run.forks.items ≡ [] → IsRunFrom digest origin x x copy run
  run_first x copy run is head had_is empty = record {
    known = λ first k. subst (λ o. IsCopyOfRun digest origin first x o) (sym is) k;
    head = subst (λ o. IfSome o (IsHeadOf origin)) (sym is) head;
    had_is = had_is;
    shows = subst (λ l. ShowsEach digest l) (sym empty) (All-nil (ShowsLine digest));
  }

  -- a candidate without a turn
  pub run_same : (x : Option (List Put)) (run : Run) → ContinuesRun digest origin x x run run
  run_same x run = record { known = λ first k. k; head = λ h. h; had_is = refl; shows = λ h. h }

  -- one turn of a candidate
  pub run_turned : (x y : Option (List Put)) (candidate : Candidate) (run next : Run) (t : Outcome) →
      IsHeadOf origin candidate → StandsAfter digest origin candidate x y t →
      KnowsAfter candidate t run.copy next.copy → next.had ≡ run.had →
      (ShowsEach digest run.forks.items → ShowsEach digest next.forks.items) → ContinuesRun digest origin x y run next
  run_turned x y candidate run next t head stands knows had_is shows = record {
    known = λ first k. known_after digest origin candidate first x y run.copy next.copy t head k stands knows;
    head = λ h. head_after origin candidate run.copy next.copy t head knows h;
    had_is = had_is;
    shows = shows;
  }

  -- one more turn
  pub run_then : (x y z : Option (List Put)) (copy : Option Candidate) (run next : Run) →
      IsRunFrom digest origin x y copy run → ContinuesRun digest origin y z run next →
      IsRunFrom digest origin x z copy next
  run_then x y z copy run next r n = record {
    known = λ first k. n.known first (r.known first k);
    head = n.head r.head;
    had_is = n.had_is ∙ r.had_is;
    shows = n.shows r.shows;
  }
