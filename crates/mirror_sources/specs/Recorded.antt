-- The calls that a source recorded.
use Rattle.std.specs.Prelude.{◌≡◌, ℕ, ◌+◌, ◌-◌, ◌^◌, ◌<◌, ◌⊎◌, List, ◌++◌, min, Option, Some, None, ⊤}

-- a list of calls, if it is known, stays as it was
abbrev pub KeepsRecord : {X : Type 0} → Option (List X) → Option (List X) → Type 0
KeepsRecord None new = ⊤
KeepsRecord (Some xs) None = ⊥
KeepsRecord (Some xs) (Some ys) = ys ≡ xs

-- a list of calls, if it is known, grows by these
abbrev pub AddsToRecord : {X : Type 0} → Option (List X) → Option (List X) → List X → Type 0
AddsToRecord None new zs = ⊤
AddsToRecord (Some xs) None zs = ⊥
AddsToRecord (Some xs) (Some ys) zs = ys ≡ xs ++ zs

-- the number plus 1, up to the last value of a u64
abbrev pub one_more : ℕ → ℕ
one_more n = min (n + 1) (2 ^ 64 - 1)

-- the count of failures rose, or is the last value of a u64
abbrev pub Rose : ℕ → ℕ → Type 0
Rose old new = (old < new) ⊎ (new ≡ 2 ^ 64 - 1)
