-- A run of turns: the facts that each turn keeps, and the result.
use Rattle.std.specs.Prelude.{◌≡◌, ℕ, List, Option, IfSome, ⊤}
use Rattle.mirror_folders.specs.Shelf.{Put}
use Rattle.copy_places.specs.Shown.{AreFork, ShowsEach}
use Rattle.copy_places.specs.declared.candidate.Candidate.{Candidate}
use Rattle.copy_follow.specs.RunStanding.{IsCopyOfRun, IsHeadOf, size_of_copy}
use Rattle.copy_follow.specs.declared.run.Outcome.{Outcome}
use Rattle.copy_follow.specs.declared.run.Outcome.TheVariants as turn
use Rattle.copy_follow.specs.declared.run.Run.{Run}

-- if a turn ends with a fork, the copy and the candidate are a fork
abbrev pub ShowsTurn : (List ℕ → List ℕ) → Option Candidate → Candidate → Outcome → Type 0
ShowsTurn digest copy candidate turn.Agrees = ⊤
ShowsTurn digest copy candidate turn.Brought = ⊤
ShowsTurn digest copy candidate (turn.Forks proof) = IfSome copy (λ held. AreFork digest held candidate proof)
ShowsTurn digest copy candidate turn.Contradicts = ⊤
ShowsTurn digest copy candidate (turn.NotHad fault) = ⊤

module _ (digest : List ℕ → List ℕ) (origin : List ℕ) (old new : Option (List Put)) where
  -- a turn continues the run, whose copy is on the shelf
  pub record ContinuesRun (run next : Run) : Type 0 where
    pub known : (first : Option (List Put)) → IsCopyOfRun digest origin first old run.copy →
        IsCopyOfRun digest origin first new next.copy
    pub head : IfSome run.copy (IsHeadOf origin) → IfSome next.copy (IsHeadOf origin)
    pub had_is : next.had ≡ run.had
    pub shows : ShowsEach digest run.forks.items → ShowsEach digest next.forks.items

  -- a run over that copy
  pub record IsRunFrom (copy : Option Candidate) (run : Run) : Type 0 where
    pub known : (first : Option (List Put)) → IsCopyOfRun digest origin first old copy →
        IsCopyOfRun digest origin first new run.copy
    pub head : IfSome run.copy (IsHeadOf origin)
    pub had_is : run.had ≡ size_of_copy copy
    pub shows : ShowsEach digest run.forks.items
