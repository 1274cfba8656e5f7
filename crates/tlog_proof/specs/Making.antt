-- Why no path was made.
use Rattle.std.specs.Prelude.{ℕ, ◌+◌, ◌≤◌}
use Rattle.tlog_proof.specs.declared.making.MakeFault.{MakeFault}
use Rattle.tlog_proof.specs.declared.making.MakeFault.TheVariants.{Ranges, OutOfMemory}

-- there was no hash of a range within the range, for that reason. Or memory was refused, after calls
-- that succeeded
abbrev pub IsWhy :
    {S E : Type 0} → (S → S → Type 0) → (S → S → ℕ → ℕ → E → Type 0) → ℕ → ℕ → S → S →
    MakeFault E → Type 0
IsWhy steps why start len old new (Ranges fault) =
    (s : ℕ) × (n : ℕ) × (start ≤ s) × (s + n ≤ start + len) × why old new s n fault
IsWhy steps why start len old new OutOfMemory = steps old new
