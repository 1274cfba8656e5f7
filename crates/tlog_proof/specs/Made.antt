-- The proof that is requested, and the answer.
use Rattle.std.specs.Prelude.{ℕ, ◌∷◌, List, [], length, take, slice_index_or, nat_lt}
use Rattle.std.specs.Prelude.{nat_le, nat_eq, if◌then◌else◌, Result, Ok, Err}
use Rattle.tlog_hash.specs.Tree.{mth}
use Rattle.tlog_text.specs.Answers.{seen}
use Rattle.tlog_proof.specs.Inclusion.{path_of, IsInclusion}
use Rattle.tlog_proof.specs.Consistency.{proof_of, IsConsistency}
use Rattle.tlog_proof.specs.declared.make.ProofFault.{ProofFault}
use Rattle.tlog_proof.specs.declared.make.ProofFault.TheVariants.{NoSuchSize, NoSuchIndex}
use Rattle.tlog_proof.specs.declared.make.ProofFault.TheVariants.{FirstIsZero, Backwards}
use Rattle.tlog_proof.specs.declared.proof.Ask.{Ask}
use Rattle.tlog_proof.specs.declared.proof.Ask.TheVariants.{Inclusion as AskInclusion}
use Rattle.tlog_proof.specs.declared.proof.Ask.TheVariants.{Consistency as AskConsistency}
use Rattle.tlog_proof.specs.declared.proof.Proof.{Proof}
use Rattle.tlog_proof.specs.declared.proof.Proof.TheVariants.{Inclusion, Consistency}

module _ (digest : List ℕ → List ℕ) where
  -- the path for an index in the tree of the first size entries, or the first refusal that applies
  abbrev pub inclusion_in : List (List ℕ) → ℕ → ℕ → Result (List (List ℕ)) ProofFault
  inclusion_in entries size index =
      if nat_lt (length entries) size then Err NoSuchSize
      else
      (if nat_le size index then
      Err NoSuchIndex
      else
      Ok (path_of digest index (take size entries)))

  -- the path from one size to another, or the first refusal that applies
  abbrev pub consistency_in : List (List ℕ) → ℕ → ℕ → Result (List (List ℕ)) ProofFault
  consistency_in entries first second =
      if nat_lt (length entries) second then Err NoSuchSize
      else
      (if nat_eq first 0 then
      Err FirstIsZero else (if nat_lt second first then Err Backwards
      else
      Ok (proof_of digest first (take second entries))))

  -- the requested proof: the path with the requested numbers, the roots, and the leaf hash
  abbrev pub asked_proof : List (List ℕ) → Ask → Result Proof ProofFault
  asked_proof entries (AskInclusion size index) =
      seen
      (λ path. Inclusion size index (mth digest (take size entries))
      (digest (0 ∷ slice_index_or entries index [])) path)
      (inclusion_in entries size index)
  asked_proof entries (AskConsistency first second) =
      seen
      (λ path. Consistency first (mth digest (take first entries)) second
      (mth digest (take second entries)) path)
      (consistency_in entries first second)

  -- the check accepts the proof
  abbrev pub Holds : Proof → Type 0
  Holds (Inclusion size index root leaf path) = IsInclusion digest leaf index size path root
  Holds (Consistency first first_root second second_root path) =
      IsConsistency digest first first_root second second_root path
