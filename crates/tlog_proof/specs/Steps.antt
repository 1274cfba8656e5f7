-- Steps of the two loops: each step keeps the part of a path that is still to be read (RFC 9162,
-- sections 2.1.3.2 and 2.1.4.2). Only contracts of private functions cite these definitions.
use Rattle.std.specs.Prelude.{◌≡◌, ℕ, ◌+◌, ◌*◌, ◌^◌, ◌<◌, ◌≤◌, List, Some, reverse}
use Rattle.tlog_hash.specs.Shape.{shape}
use Rattle.tlog_proof.specs.Climb.{climb}
use Rattle.tlog_proof.specs.Inclusion.{incl_in}
use Rattle.tlog_proof.specs.Consistency.{both_right, both_left}

-- for one root: leaf i of s + 1 leaves and leaf j of t + 1 leaves lead to the same result by every
-- path
abbrev pub KeepsIncl : (i s j t : ℕ) → Type 0
KeepsIncl i s j t =
    (digest : List ℕ → List ℕ) (leaf : List ℕ) (path : List (List ℕ)) →
    incl_in digest (shape (s + 1)) i leaf path ≡ incl_in digest (shape (t + 1)) j leaf path

-- for two roots: leaf i of s + 1 leaves and leaf j of t + 1 leaves lead to the same result by every
-- path
abbrev pub KeepsBoth : (i s j t : ℕ) → Type 0
KeepsBoth i s j t =
    (digest : List ℕ → List ℕ) (roots : List ℕ × List ℕ) (path : List (List ℕ)) →
    climb (both_right digest) (both_left digest) (shape (s + 1)) i roots path
    ≡ climb (both_right digest) (both_left digest) (shape (t + 1)) j roots path

-- for some power of two, n entries make s + 1 blocks, and the last block may be shorter; m entries
-- make exactly c + 1 full blocks
pub record HasBlocks (n m c s : ℕ) : Type 0 where
  pub exponent : ℕ
  pub upto : n ≤ (s + 1) * 2 ^ exponent
  pub above : (s + 1) * 2 ^ exponent < n + 2 ^ exponent
  pub first_is : m ≡ (c + 1) * 2 ^ exponent

-- the path leads from leaf i of s + 1 leaves to both roots; start is that leaf's hash in both
-- trees, and the path has the hash nearest to the leaf first
abbrev pub LeadsToBoth : (List ℕ → List ℕ) → (i s : ℕ) → List ℕ → List (List ℕ) → List ℕ →
    List ℕ → Type 0
LeadsToBoth digest i s start path first_root second_root =
    climb (both_right digest) (both_left digest) (shape (s + 1)) i (start, start) (reverse path)
    ≡ Some (first_root, second_root)
