-- The fork lines: their checkpoints and their order.
use Rattle.std.specs.Prelude.{◌≡◌, ◌⊎◌, List, All, Contains, Option, Some, None}
use Rattle.std.specs.List.Sorted.{IsStrictlySortedBy}
use Rattle.std.specs.declared.cmp.Ordering.{Ordering}
use Rattle.std.specs.declared.cmp.Ordering.TheVariants.{Less}
use Rattle.mirror_model.specs.Forks.{point_cmp}
use Rattle.mirror_model.specs.Listed.{PointPair, pair_cmp}
use Rattle.copy_places.specs.Candidates.{IsOnePoint, IsSame, point_of}
use Rattle.copy_places.specs.declared.candidate.Candidate.{Candidate}
use Rattle.copy_places.specs.declared.fork_line.ForkLine.{ForkLine}

-- ---- the order of lines

-- the sizes and roots of a line
abbrev pub pair_of : ForkLine → PointPair
pair_of line = record { small = point_of line.small; large = point_of line.large }

-- the order of lines: by the smaller checkpoint, then by the larger one
abbrev pub fork_line_cmp : ForkLine → ForkLine → Ordering
fork_line_cmp a b = pair_cmp (pair_of a) (pair_of b)

-- the smaller checkpoint comes first: by size, then by root
abbrev pub HasSmallFirst : ForkLine → Type 0
HasSmallFirst line = point_cmp (point_of line.small) (point_of line.large) ≡ Less

-- ---- the checkpoints of lines

-- the checkpoint is one of the candidates, with its note
abbrev pub IsListed : List Candidate → Candidate → Type 0
IsListed candidates checkpoint = (candidate : Candidate) × Contains candidates candidate × IsSame candidate checkpoint

-- the checkpoint is that of the first copy, if there is one
abbrev pub IsFirst : Option Candidate → Candidate → Type 0
IsFirst None checkpoint = ⊥
IsFirst (Some first) checkpoint = IsSame first checkpoint

abbrev pub IsFirstOrListed : Option Candidate → List Candidate → Candidate → Type 0
IsFirstOrListed first candidates checkpoint = IsFirst first checkpoint ⊎ IsListed candidates checkpoint

-- one of the two checkpoints is a candidate. The other is one too, or it is that of the first copy
abbrev pub HasCandidate : Option Candidate → List Candidate → ForkLine → Type 0
HasCandidate first candidates line =
    (IsListed candidates line.small × IsFirstOrListed first candidates line.large)
    ⊎ (IsListed candidates line.large × IsFirstOrListed first candidates line.small)

-- each line has a candidate, and its smaller checkpoint is first. The lines rise, and no two have the same checkpoints
pub record AreLines (first : Option Candidate) (candidates : List Candidate) (lines : List ForkLine) : Type 0 where
  pub each : All (HasCandidate first candidates) lines
  pub small_first : All HasSmallFirst lines
  pub sorted : IsStrictlySortedBy fork_line_cmp lines

-- ---- lists of lines

-- a checkpoint of the line has the size and root of the candidate
abbrev pub IsInLine : Candidate → ForkLine → Type 0
IsInLine candidate line = IsOnePoint candidate line.small ⊎ IsOnePoint candidate line.large

-- some line has such a checkpoint
pub record IsInSomeLine (lines : List ForkLine) (candidate : Candidate) : Type 0 where
  pub line : ForkLine
  pub listed : Contains lines line
  pub is_in : IsInLine candidate line

-- some line has the same two points
pub record HasLineOf (lines : List ForkLine) (line : ForkLine) : Type 0 where
  pub same : ForkLine
  pub listed : Contains lines same
  pub small_is : IsOnePoint line.small same.small
  pub large_is : IsOnePoint line.large same.large

-- the old lines are still there
abbrev pub KeepsLines : List ForkLine → List ForkLine → Type 0
KeepsLines old new = (line : ForkLine) → Contains old line → Contains new line
