-- A fork line is added to rising lines.
use Rattle.std.specs.Prelude.{◌≡◌, ◌⊎◌, ℕ, ◌<◌, ◌≤◌, List, get_or, length}
use Rattle.std.specs.List.{insert}
use Rattle.std.specs.List.Sorted.{IsStrictlySortedBy}
use Rattle.std.specs.declared.cmp.Ordering.TheVariants.{Less, Greater}
use Rattle.copy_places.specs.Lines.{HasSmallFirst, fork_line_cmp}
use Rattle.copy_places.specs.Candidates.{IsOnePoint, IsSame}
use Rattle.copy_places.specs.declared.candidate.Candidate.{Candidate}
use Rattle.copy_places.specs.declared.fork_line.ForkLine.{ForkLine}

-- the line belongs at that index: it comes after the lines before it, and before the line at the index
pub record IsPlaceOf (line : ForkLine) (lines : List ForkLine) (at : ℕ) : Type 0 where
  pub within : at ≤ length lines
  pub after : (k : ℕ) (none : ForkLine) → k < at → fork_line_cmp line (get_or lines k none) ≡ Greater
  pub before : (none : ForkLine) → at < length lines → fork_line_cmp line (get_or lines at none) ≡ Less

-- the lines have such a line already, or it was added so that they still rise
pub record AddsLine (line : ForkLine) (old new : List ForkLine) : Type 0 where
  pub among : (new ≡ old) ⊎ ((at : ℕ) × (new ≡ insert old at line))
  pub sorted : IsStrictlySortedBy fork_line_cmp old → IsStrictlySortedBy fork_line_cmp new

-- the line is that of two checkpoints, the smaller first
pub record IsForkLine (a b : Candidate) (line : ForkLine) : Type 0 where
  pub both : (IsSame a line.small × IsSame b line.large) ⊎ (IsSame b line.small × IsSame a line.large)
  pub small_first : ¬ IsOnePoint a b → HasSmallFirst line

-- a line of the two checkpoints is added
pub record AddsFork (a b : Candidate) (old new : List ForkLine) : Type 0 where
  pub line : ForkLine
  pub is : IsForkLine a b line
  pub adds : AddsLine line old new
