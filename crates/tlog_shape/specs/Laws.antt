-- Laws of the split, and of the greatest size of a tree.
use Rattle.std.specs.Prelude.{◌≡◌, ℕ, ◌+◌, ◌^◌, ◌<◌, ◌≤◌}
use Rattle.tlog_shape.specs.declared.TheConstants.{MAX_SIZE}
use Rattle.tlog_shape.specs.Split.{split_of, IsPowerOfTwo}

-- k is the largest power of two smaller than n
pub record IsSplit (n k : ℕ) : Type 0 where
  pub power : IsPowerOfTwo k
  pub smaller : k < n
  pub largest : (other : ℕ) → IsPowerOfTwo other → other < n → other ≤ k

-- for n of at least 2, the split is the k of RFC 6962
abbrev pub SplitIsLargestPower : Type 0
SplitIsLargestPower = (n : ℕ) → 2 ≤ n → IsSplit n (split_of n)

-- the greatest size of a tree is the greatest number of 63 bits
abbrev pub GreatestSizeHas63Bits : Type 0
GreatestSizeHas63Bits = MAX_SIZE + 1 ≡ 2 ^ 63
