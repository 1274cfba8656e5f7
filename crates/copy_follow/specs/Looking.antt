-- Candidates that are looked at once more, after the copy has grown. Only the contracts of private functions cite these definitions.
use Rattle.std.specs.Prelude.{◌≡◌, ℕ, List, All, IfSome, Option}
use Rattle.copy_places.specs.Lines.{AreLines, IsFirstOrListed, IsListed, KeepsLines}
use Rattle.copy_places.specs.Shown.{ShowsEach}
use Rattle.copy_places.specs.declared.candidate.Candidate.{Candidate}
use Rattle.copy_places.specs.declared.fork_line.ForkLine.{ForkLine}
use Rattle.copy_follow.specs.TurnsTaken.{HasTakenRun, IsLineOfRun, IsLineUpTo}
use Rattle.copy_follow.specs.declared.run.Run.{Run}

module _ (digest : List ℕ → List ℕ) where
  -- lines of the copy and some of the candidates were added. Each shows a fork, and its smaller checkpoint is not larger than the copy
  pub record AddsForks (copy : Option Candidate) (some : List Candidate) (old new : List ForkLine) : Type 0 where
    pub shows : ShowsEach digest old → ShowsEach digest new
    pub kept : KeepsLines old new
    pub within : All (IsLineUpTo copy) old → All (IsLineUpTo copy) new
    pub are : (first : Option Candidate) (candidates : List Candidate) → IfSome copy (IsFirstOrListed first candidates) →
        All (IsListed candidates) some → AreLines first candidates old → AreLines first candidates new
    pub of_copy : (first : Option Candidate) (candidates : List Candidate) → All (IsListed candidates) some →
        All (IsLineOfRun first candidates copy) old → All (IsLineOfRun first candidates copy) new

  -- the run has its copy and its fault still, and maybe more lines
  pub record LooksOn (old new : Run) : Type 0 where
    pub copy_is : new.copy ≡ old.copy
    pub had_is : new.had ≡ old.had
    pub fault_is : new.first_fault ≡ old.first_fault
    pub shows : ShowsEach digest old.forks.items → ShowsEach digest new.forks.items
    pub taken : (first : Option Candidate) (done : List Candidate) → HasTakenRun digest first done old →
        HasTakenRun digest first done new
