-- The facts about the candidates that had their turn.
use Rattle.std.specs.Prelude.{◌≡◌, ◌≢◌, ◌⊎◌, ℕ, ◌-◌, ◌<◌, ◌≤◌, List, [], ◌∷◌, ◌++◌, All, IfSome, Option, None, Some, ⊤, slice_index_or}
use Rattle.copy_places.specs.Agreeing.{Agrees}
use Rattle.copy_places.specs.Candidates.{IsOnePoint, IsSame, note_of, point_of}
use Rattle.copy_places.specs.Adding.{AddsFork}
use Rattle.copy_places.specs.Lines.{AreLines, IsFirst, IsFirstOrListed, IsInSomeLine, IsListed, KeepsLines}
use Rattle.copy_places.specs.declared.candidate.Candidate.{Candidate}
use Rattle.copy_places.specs.declared.fork_line.ForkLine.{ForkLine}
use Rattle.copy_follow.specs.Says.{IsNoteUpTo}
use Rattle.copy_follow.specs.declared.run.Run.{Run}
use Rattle.copy_follow.specs.declared.run.Outcome.{Outcome}
use Rattle.copy_follow.specs.declared.run.Outcome.TheVariants as turn

-- ---- a turn

-- the candidate before that one has its size and root
abbrev pub IsRepeat : List Candidate → ℕ → Type 0
IsRepeat candidates i =
    (0 < i) × ((none : Candidate) → IsOnePoint (slice_index_or candidates (i - 1) none) (slice_index_or candidates i none))

-- no candidate before it is smaller, or has its size and root
pub record IsNextOf (done : List Candidate) (candidate : Candidate) : Type 0 where
  pub upto : All (λ c. candidate.size.0 ≤ c.size.0) done
  pub apart : All (λ c. ¬ IsOnePoint c candidate) done

-- a candidate to which the copy could not be brought is added
pub record AddsLacked (candidate : Candidate) (old new : List Candidate) : Type 0 where
  pub added : Candidate
  pub same : IsSame candidate added
  pub is : new ≡ old ++ added ∷ []

-- the outcome of a candidate's turn is added to a run
abbrev pub IsAdded : Candidate → Outcome → Run → Run → Type 0
IsAdded candidate turn.Agrees old new = (new.forks ≡ old.forks) × (new.not_had ≡ old.not_had)
IsAdded candidate turn.Brought old new = (new.forks ≡ old.forks) × (new.not_had ≡ old.not_had)
IsAdded candidate (turn.Forks proof) old new =
    (old.copy ≢ None → KeepsLines old.forks.items new.forks.items × IsInSomeLine new.forks.items candidate)
    × IfSome old.copy (λ copy. AddsFork copy candidate old.forks.items new.forks.items) × (new.not_had ≡ old.not_had)
IsAdded candidate turn.Contradicts old new =
    (new.forks ≡ old.forks) × AddsLacked candidate old.not_had.items new.not_had.items
IsAdded candidate (turn.NotHad fault) old new =
    (new.forks ≡ old.forks) × AddsLacked candidate old.not_had.items new.not_had.items

-- the note of the copy is not greater, if the candidate has its size and root
abbrev pub IsNoted : Option Candidate → Candidate → Type 0
IsNoted None candidate = ⊤
IsNoted (Some copy) candidate = IsOnePoint candidate copy → IsNoteUpTo (note_of copy) (note_of candidate)

-- the candidate is larger than the copy. Or it has its size and root, and a note that is not greater
abbrev pub IsAbove : Option Candidate → Candidate → Type 0
IsAbove None candidate = ⊤
IsAbove (Some copy) candidate =
    (copy.size.0 < candidate.size.0)
    ⊎ (IsOnePoint candidate copy × IsNoteUpTo (note_of candidate) (note_of copy))

-- the candidate is larger than the copy, if there is one
abbrev pub IsLargerThan : Option Candidate → Candidate → Type 0
IsLargerThan None candidate = ⊤
IsLargerThan (Some copy) candidate = copy.size.0 < candidate.size.0

-- ---- all turns so far

-- the candidate is at least as large as the copy, and does not have its size and root
abbrev pub IsBeyond : Option Candidate → Candidate → Type 0
IsBeyond None candidate = ⊤
IsBeyond (Some copy) candidate = (copy.size.0 ≤ candidate.size.0) × ¬ IsOnePoint candidate copy

-- the candidate is in a line, or it is not smaller than the copy and is to be reported by the rule of lines
abbrev pub IsReported : Option Candidate → List ForkLine → Candidate → Type 0
IsReported copy forks candidate = IsInSomeLine forks candidate ⊎ IsBeyond copy candidate

-- the smaller checkpoint of the line is not larger than the copy
abbrev pub IsLineUpTo : Option Candidate → ForkLine → Type 0
IsLineUpTo None line = ⊥
IsLineUpTo (Some copy) line = line.small.size.0 ≤ copy.size.0

-- the line is of a candidate and the copy, the smaller one first. Or it is of the first copy and a candidate that is not smaller than the
-- copy
abbrev pub IsLineOfRun : Option Candidate → List Candidate → Option Candidate → ForkLine → Type 0
IsLineOfRun first done None line = ⊥
IsLineOfRun first done (Some copy) line =
    (IsListed done line.small × IsOnePoint copy line.large × (line.small.size.0 ≤ copy.size.0))
    ⊎ (IsListed done line.large × (IsFirst first line.small ⊎ IsSame copy line.small) × (copy.size.0 ≤ line.large.size.0))

-- the copy is at least as large as the first copy. If both have one size, its note is not greater
abbrev pub IsGrown : Option Candidate → Option Candidate → Type 0
IsGrown None copy = ⊤
IsGrown (Some first) None = ⊥
IsGrown (Some first) (Some copy) =
    (first.size.0 ≤ copy.size.0)
    × (first.size.0 ≡ copy.size.0 → IsNoteUpTo (note_of copy) (note_of first))

-- the copy is the first copy, or one of the candidates
abbrev pub IsOneOf : Option Candidate → List Candidate → Option Candidate → Type 0
IsOneOf first done None = ⊤
IsOneOf first done (Some copy) = IsFirstOrListed first done copy

module _ (digest : List ℕ → List ℕ) where
  -- the candidate is not larger than the copy, and agrees with it
  abbrev pub IsAgreed : Option Candidate → Candidate → Type 0
  IsAgreed None candidate = ⊥
  IsAgreed (Some copy) candidate =
      (candidate.size.0 ≤ copy.size.0) × Agrees digest (point_of candidate) (point_of copy)

  -- the facts after a candidate's turn
  abbrev pub SaysTurn : Option Candidate → Candidate → Outcome → Type 0
  SaysTurn copy candidate turn.Agrees = IsAgreed copy candidate × IsNoted copy candidate
  SaysTurn copy candidate turn.Brought = IsAbove copy candidate
  SaysTurn copy candidate (turn.Forks proof) = copy ≢ None
  SaysTurn copy candidate turn.Contradicts = IsLargerThan copy candidate
  SaysTurn copy candidate (turn.NotHad fault) = IsLargerThan copy candidate

  -- the facts after the turns of the candidates, in a run that began with the first copy
  pub record HasTaken (first : Option Candidate) (done : List Candidate) (copy : Option Candidate)
      (forks : List ForkLine) : Type 0 where
    pub each : All (λ c. IsAgreed copy c ⊎ IsReported copy forks c) done
    pub noted : All (IsNoted copy) done
    pub within : All (IsLineUpTo copy) forks
    pub grown : IsGrown first copy
    pub one_of : IsOneOf first done copy

  -- the same for a run and its lines. Each candidate to which the copy could not be brought is one of them
  pub record HasTakenRun (first : Option Candidate) (done : List Candidate) (run : Run) : Type 0 where
    pub taken : HasTaken first done run.copy run.forks.items
    pub lines : AreLines first done run.forks.items
    pub of_copy : All (IsLineOfRun first done run.copy) run.forks.items
    pub listed : All (IsListed done) run.not_had.items
