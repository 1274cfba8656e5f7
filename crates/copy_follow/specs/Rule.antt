-- The rule of lines: the fork lines and the larger ones of candidates that are larger than the copy, and the fork lines of the copy.
use Rattle.std.specs.Prelude.{◌≡◌, ◌≢◌, ◌↔◌, ℕ, ◌<◌, ◌≤◌, false, List, All, Contains, Option, Some, None, option_map, ⊤}
use Rattle.std.specs.Cmp.Lexicographic.{slice_cmp}
use Rattle.std.specs.List.Sorted.{IsStrictlySortedBy}
use Rattle.std.specs.Ordering.{is_gt, nat_cmp, ordering_then}
use Rattle.std.specs.declared.cmp.Ordering.{Ordering}
use Rattle.copy_places.specs.Candidates.{IsOnePoint, IsSame}
use Rattle.copy_places.specs.Lines.{IsFirst, IsInSomeLine, IsListed}
use Rattle.copy_places.specs.declared.candidate.Candidate.{Candidate}
use Rattle.copy_places.specs.declared.fork_line.ForkLine.{ForkLine}

-- the size and root of the copy, if there is one
abbrev pub copy_point : Option Candidate → Option (ℕ × List ℕ)
copy_point copy = option_map (λ c. (c.size.0, c.root)) copy

-- the copy, if there is one, has fewer entries
abbrev pub ExceedsCopy : Option (ℕ × List ℕ) → ℕ → Type 0
ExceedsCopy None size = ⊤
ExceedsCopy (Some copy) size = copy.0 < size

-- the order of the larger candidates: the lesser size first, then the lesser root
abbrev pub larger_cmp : ℕ × List ℕ → ℕ × List ℕ → Ordering
larger_cmp a b = ordering_then (nat_cmp a.0 b.0) (slice_cmp nat_cmp a.1 b.1)

-- one of the candidates of that size, which has the least root of them
pub record IsLeastOf (candidates : List Candidate) (size : ℕ) (least : Candidate) : Type 0 where
  pub listed : Contains candidates least
  pub size_is : least.size.0 ≡ size
  pub upto : All (λ c. c.size.0 ≡ size → is_gt (slice_cmp nat_cmp least.root c.root) ≡ false) candidates

-- the line has the least root of a size, and another root of that size
pub record IsEqualLine (candidates : List Candidate) (line : ForkLine) : Type 0 where
  pub least : Candidate
  pub other : Candidate
  pub is_least : IsLeastOf candidates other.size.0 least
  pub listed : Contains candidates other
  pub apart : least.root ≢ other.root
  pub small_is : IsSame least line.small
  pub large_is : IsSame other line.large

-- some line has these two sizes and roots
pub record HasLine (lines : List ForkLine) (small large : Candidate) : Type 0 where
  pub line : ForkLine
  pub listed : Contains lines line
  pub small_is : IsOnePoint small line.small
  pub large_is : IsOnePoint large line.large

module _ (copy : Option (ℕ × List ℕ)) (candidates : List Candidate) (lines : List ForkLine) where
  -- a candidate of that size and root is larger than the copy, and in no line
  pub record IsLeft (point : ℕ × List ℕ) : Type 0 where
    pub candidate : Candidate
    pub listed : Contains candidates candidate
    pub is : point ≡ (candidate.size.0, candidate.root)
    pub more : ExceedsCopy copy candidate.size.0
    pub alone : ¬ IsInSomeLine lines candidate

  -- for each size above the copy, the least root of that size is in a line with each other one. Those are all lines of two candidates
  -- above the copy. The candidates above the copy that are in no line are the larger ones, which rise strictly
  pub record FollowsRule (larger : List (ℕ × List ℕ)) : Type 0 where
    pub equal : (least other : Candidate) → IsLeastOf candidates other.size.0 least → Contains candidates other →
        ExceedsCopy copy other.size.0 → least.root ≢ other.root → HasLine lines least other
    pub only : All (λ line. ExceedsCopy copy line.small.size.0 → IsEqualLine candidates line) lines
    pub left : (point : ℕ × List ℕ) → Contains larger point ↔ IsLeft point
    pub rising : IsStrictlySortedBy larger_cmp larger

-- ---- the lines of the copy

-- the checkpoint has the size and root of the copy, if there is one
abbrev pub IsCopyAt : Option (ℕ × List ℕ) → Candidate → Type 0
IsCopyAt None checkpoint = ⊥
IsCopyAt (Some copy) checkpoint = (copy.0 ≡ checkpoint.size.0) × (copy.1 ≡ checkpoint.root)

-- the copy does not have more entries
abbrev pub IsCopyUpTo : Option (ℕ × List ℕ) → ℕ → Type 0
IsCopyUpTo None size = ⊤
IsCopyUpTo (Some copy) size = copy.0 ≤ size

-- the line is of a candidate and the copy, the smaller one first. Or it is of the first copy and a candidate that is not smaller than the
-- copy
pub data IsLineOfCopy (first : Option Candidate) (candidates : List Candidate) (copy : Option (ℕ × List ℕ)) (line : ForkLine)
    : Type 0 where
  OfSmaller : IsListed candidates line.small → IsCopyAt copy line.large → IsLineOfCopy first candidates copy line
  OfLarger : IsListed candidates line.large → IsCopyAt copy line.small → IsLineOfCopy first candidates copy line
  OfFirst :
      IsListed candidates line.large → IsFirst first line.small → IsCopyUpTo copy line.large.size.0 →
      IsLineOfCopy first candidates copy line

-- this holds if the smaller checkpoint of the line is not larger than the copy
abbrev pub IsOfCopy : Option Candidate → List Candidate → Option (ℕ × List ℕ) → ForkLine → Type 0
IsOfCopy first candidates copy line =
    ¬ ExceedsCopy copy line.small.size.0 → IsLineOfCopy first candidates copy line

-- no size has two roots: each candidate has the least root of its size
abbrev pub HasOneRoot : List Candidate → Type 0
HasOneRoot candidates =
    (least other : Candidate) → IsLeastOf candidates other.size.0 least → Contains candidates other → least.root ≡ other.root
