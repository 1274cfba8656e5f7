-- The proof that a reader gives is the requested one.
use Rattle.std.specs.Prelude.{◌≡◌, ℕ, List}
use Rattle.tlog_proof.specs.declared.proof.Proof.{Proof}
use Rattle.tlog_proof.specs.declared.proof.Proof.TheVariants.{Inclusion, Consistency}

-- the proof is a consistency proof from the first entries to the tree of that size and root
abbrev pub IsConsistencyTo : ℕ → ℕ → List ℕ → Proof → Type 0
IsConsistencyTo first size root (Inclusion n i r leaf path) = ⊥
IsConsistencyTo first size root (Consistency m first_root n second_root path) =
    (m ≡ first) × (n ≡ size) × (second_root ≡ root)

-- the proof is an inclusion proof of the entry of that index in the tree of that size and root
abbrev pub IsInclusionIn : ℕ → ℕ → List ℕ → Proof → Type 0
IsInclusionIn size index root (Inclusion n i r leaf path) = (n ≡ size) × (i ≡ index) × (r ≡ root)
IsInclusionIn size index root (Consistency m first_root n second_root path) = ⊥
