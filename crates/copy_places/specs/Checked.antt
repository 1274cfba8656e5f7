-- The first root of a proof.
use Rattle.std.specs.Prelude.{◌≡◌, ℕ, List}
use Rattle.tlog_proof.specs.declared.proof.Proof.{Proof}
use Rattle.tlog_proof.specs.declared.proof.Proof.TheVariants.{Inclusion, Consistency}

-- the first root of a consistency proof is that hash
abbrev pub HasFirstRoot : List ℕ → Proof → Type 0
HasFirstRoot hash (Inclusion size index root leaf path) = ⊥
HasFirstRoot hash (Consistency first first_root second second_root path) = first_root ≡ hash
