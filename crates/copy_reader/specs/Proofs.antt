-- The proof from a copy is the requested one, and holds against the root of its checkpoint.
use Rattle.std.specs.Prelude.{◌≡◌, ℕ, ◌<◌, ◌≤◌, List, Ok}
use Rattle.tlog_proof.specs.Made.{Holds, asked_proof}
use Rattle.tlog_proof.specs.Text.{IsProofText}
use Rattle.tlog_proof.specs.declared.proof.Ask.{Ask}
use Rattle.tlog_proof.specs.declared.proof.Ask.TheVariants.{Inclusion as AskInclusion}
use Rattle.tlog_proof.specs.declared.proof.Ask.TheVariants.{Consistency as AskConsistency}
use Rattle.tlog_proof.specs.declared.proof.Proof.{Proof}
use Rattle.tlog_proof.specs.declared.proof.Proof.TheVariants.{Inclusion, Consistency}
use Rattle.copy_reader.specs.Shown.{IsRootOf}

-- a log of that size has the requested entry or sizes
abbrev pub IsWithin : Ask → ℕ → Type 0
IsWithin (AskInclusion n i) size = (n ≤ size) × (i < n)
IsWithin (AskConsistency m n) size = (n ≤ size) × (0 < m) × (m ≤ n)

-- the size of the tree of the proof: the greater one of two sizes
abbrev pub size_asked : Ask → ℕ
size_asked (AskInclusion n i) = n
size_asked (AskConsistency m n) = n

module _ (digest : List ℕ → List ℕ) (ask : Ask) (entries : List (List ℕ)) where
  -- the proof is that of the definitions for the entries
  abbrev pub IsMadeOf : Proof → Type 0
  IsMadeOf proof = asked_proof digest entries ask ≡ Ok proof

  -- the text is that of this proof
  pub record IsTrueText (text : List ℕ) : Type 0 where
    pub proof : Proof
    pub made : IsMadeOf proof
    pub text_is : IsProofText text proof

-- the proof is the requested one, in the tree of that root
abbrev pub IsInTree : List ℕ → Ask → Proof → Type 0
IsInTree root (AskInclusion n i) (Inclusion n' i' r leaf path) = (n' ≡ n) × (i' ≡ i) × (r ≡ root)
IsInTree root (AskInclusion n i) (Consistency m r n' r' path) = ⊥
IsInTree root (AskConsistency m n) (Inclusion n' i r leaf path) = ⊥
IsInTree root (AskConsistency m n) (Consistency m' r n' r' path) = (m' ≡ m) × (n' ≡ n) × (r' ≡ root)

module _ (digest : List ℕ → List ℕ) (size : ℕ) (root : List ℕ) where
  -- the proof is the requested one: it has these sizes and this index, and the root of the first entries of that size
  abbrev pub IsAsked : Ask → Proof → Type 0
  IsAsked (AskInclusion n i) (Inclusion n' i' r leaf path) =
      (n' ≡ n) × (i' ≡ i) × (n ≤ size) × IsRootOf digest size root n r
  IsAsked (AskInclusion n i) (Consistency m r n' r' path) = ⊥
  IsAsked (AskConsistency m n) (Inclusion n' i r leaf path) = ⊥
  IsAsked (AskConsistency m n) (Consistency m' r n' r' path) =
      (m' ≡ m) × (n' ≡ n) × (n ≤ size) × IsRootOf digest size root n r'

  -- the text is that of a requested and accepted proof
  pub record IsProofOf (ask : Ask) (text : List ℕ) : Type 0 where
    pub proof : Proof
    pub asked : IsAsked ask proof
    pub holds : Holds digest proof
    pub text_is : IsProofText text proof
