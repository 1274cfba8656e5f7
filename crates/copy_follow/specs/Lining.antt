-- The rule of lines, candidate after candidate. Only the contracts of private functions cite these definitions.
use Rattle.std.specs.Prelude.{◌≡◌, ◌≢◌, ◌⊎◌, ℕ, List, All, Contains, IfSome, Option, Some, take}
use Rattle.std.specs.List.Sorted.{IsStrictlySortedBy}
use Rattle.copy_places.specs.Lines.{AreLines, IsFirstOrListed, IsInSomeLine, IsListed, KeepsLines}
use Rattle.copy_places.specs.Shown.{ShowsEach}
use Rattle.copy_places.specs.declared.candidate.Candidate.{Candidate}
use Rattle.copy_places.specs.declared.fork_line.ForkLine.{ForkLine}
use Rattle.copy_follow.specs.Rule.{ExceedsCopy, IsEqualLine, IsLeastOf, IsLeft, copy_point, larger_cmp}
use Rattle.copy_follow.specs.TurnsTaken.{IsLargerThan, IsLineOfRun, IsLineUpTo}

-- ---- the copy, and candidates of its size

-- if the candidate has the copy's size and another root, it is in a line
abbrev pub IsBeside : Candidate → List ForkLine → Candidate → Type 0
IsBeside copy lines candidate =
    candidate.size.0 ≡ copy.size.0 → copy.root ≢ candidate.root → IsInSomeLine lines candidate

-- such lines were added for some candidates: each one shows a fork, and its smaller checkpoint is not larger than the copy
pub record AddsBeside (copy : Candidate) (done : List Candidate) (old new : List ForkLine) : Type 0 where
  pub shows : (digest : List ℕ → List ℕ) → ShowsEach digest old → ShowsEach digest new
  pub kept : KeepsLines old new
  pub each : All (IsBeside copy new) done
  pub within : All (IsLineUpTo (Some copy)) old → All (IsLineUpTo (Some copy)) new
  pub lines : (first : Option Candidate) (candidates : List Candidate) → IsFirstOrListed first candidates copy →
      All (IsListed candidates) done → AreLines first candidates old → AreLines first candidates new
  pub of_copy : (first : Option Candidate) (candidates : List Candidate) → All (IsListed candidates) done →
      All (IsLineOfRun first candidates (Some copy)) old → All (IsLineOfRun first candidates (Some copy)) new

module _ (copy : Option Candidate) (candidates : List Candidate) where
  -- the same for all candidates, if there is a copy
  pub record AddsToCopy (old new : List ForkLine) : Type 0 where
    pub shows : (digest : List ℕ → List ℕ) → ShowsEach digest old → ShowsEach digest new
    pub kept : KeepsLines old new
    pub each : All (λ c. IfSome copy (λ held. IsBeside held new c)) candidates
    pub within : All (IsLineUpTo copy) old → All (IsLineUpTo copy) new
    pub lines : (first : Option Candidate) → IfSome copy (IsFirstOrListed first candidates) →
        AreLines first candidates old → AreLines first candidates new
    pub of_copy : (first : Option Candidate) → All (IsLineOfRun first candidates copy) old →
        All (IsLineOfRun first candidates copy) new

  -- ---- candidates of one size above the copy

  -- the line is one of the rule, above the copy
  abbrev pub IsEqualAbove : ForkLine → Type 0
  IsEqualAbove line = IsEqualLine candidates line × ExceedsCopy (copy_point copy) line.small.size.0

  -- the candidate has the least root of its size, or it is in a line
  pub record IsLeastOrIn (lines : List ForkLine) (candidate : Candidate) : Type 0 where
    pub least : Candidate
    pub is_least : IsLeastOf candidates candidate.size.0 least
    pub so : (least.root ≡ candidate.root) ⊎ IsInSomeLine lines candidate

  -- the lines of the rule were added for some candidates above the copy
  pub record AddsEqual (done : List Candidate) (old new : List ForkLine) : Type 0 where
    pub shows : (digest : List ℕ → List ℕ) → ShowsEach digest old → ShowsEach digest new
    pub kept : KeepsLines old new
    pub each : All (λ c. IsLargerThan copy c → IsLeastOrIn new c) done
    pub only : All IsEqualAbove old → All IsEqualAbove new
    pub lines : (first : Option Candidate) → AreLines first candidates old → AreLines first candidates new

  -- the lines are exactly those of the rule
  pub record HasEqual (lines : List ForkLine) : Type 0 where
    pub shows : (digest : List ℕ → List ℕ) → ShowsEach digest lines
    pub each : All (λ c. IsLargerThan copy c → IsLeastOrIn lines c) candidates
    pub only : All IsEqualAbove lines
    pub are : (first : Option Candidate) → AreLines first candidates lines

  -- ---- candidates in no line

  -- two candidates of one size above the copy that are in no line have one root
  abbrev pub AloneAreOne : List ForkLine → Type 0
  AloneAreOne lines =
      (a b : Candidate) → Contains candidates a → Contains candidates b → IsLargerThan copy a → IsLargerThan copy b →
      a.size.0 ≡ b.size.0 → ¬ IsInSomeLine lines a → ¬ IsInSomeLine lines b → a.root ≡ b.root

  -- these are the points of the first i candidates that are larger than the copy and in no line
  pub record HasLeft (lines : List ForkLine) (i : ℕ) (larger : List (ℕ × List ℕ)) : Type 0 where
    pub each : All (λ c. IsLargerThan copy c → IsInSomeLine lines c ⊎ Contains larger (c.size.0, c.root)) (take i candidates)
    pub left : All (IsLeft (copy_point copy) (take i candidates) lines) larger
    pub rising : AloneAreOne lines → IsStrictlySortedBy larger_cmp larger
