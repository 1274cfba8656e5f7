-- Proofs made from a list of entries: they can be written. A proof in the tree of the first entries is one of all
-- entries at that size.
use Rattle.std.proofs.Common.{◌≡◌, ℕ, ◌≤◌, List, [], ◌∷◌, length, take, Result, Ok, Err, refl, sym, ap, ◌∙◌, subst, arith}
use Rattle.std.specs.Prelude.{slice_index_or, ◌<◌}
use Rattle.std.proofs.lemmas.List.{length-take-le}
use Rattle.tlog_hash.specs.Tree.{mth}
use Rattle.tlog_shape.specs.declared.TheConstants.{MAX_SIZE}
use Rattle.tlog_text.specs.Answers.{seen}
use Rattle.tlog_proof.specs.Made.{asked_proof, consistency_in, inclusion_in}
use Rattle.tlog_proof.specs.Text.{IsWritableProof}
use Rattle.tlog_proof.specs.declared.make.ProofFault.{ProofFault}
use Rattle.tlog_proof.specs.declared.proof.Ask.{Ask}
use Rattle.tlog_proof.specs.declared.proof.Ask.TheVariants.{Inclusion as AskInclusion, Consistency as AskConsistency}
use Rattle.tlog_proof.specs.declared.proof.Proof.{Proof}
use Rattle.tlog_proof.specs.declared.proof.Proof.TheVariants.{Inclusion, Consistency}
use Rattle.tlog_proof.proofs.Lengths.{path_writable, proof_writable}
use Rattle.log_reader.specs.Proving.{IsConsistencyTo, IsInclusionIn}
use Rattle.log_reader.proofs.Asked.{first_consistency, first_inclusion}
use Rattle.copy_reader.specs.Proofs.{IsAsked, IsInTree, IsMadeOf, IsWithin, size_asked}
use Rattle.copy_reader.specs.Shown.{IsRootOf}

seen_writable : (view : List (List ℕ) → Proof) (proof : Proof) (r : Result (List (List ℕ)) ProofFault) →
    ((path : List (List ℕ)) → r ≡ Ok path → IsWritableProof (view path)) → seen view r ≡ Ok proof → IsWritableProof proof
seen_writable view proof (Ok path) writable e =
    let same : view path ≡ proof = cc e in subst IsWritableProof same (writable path refl)
seen_writable view proof (Err fault) writable e = absurd (cc e)

pub made_writable : (digest : List ℕ → List ℕ) (entries : List (List ℕ)) (ask : Ask) (proof : Proof) →
    length entries ≤ MAX_SIZE → IsMadeOf digest ask entries proof → IsWritableProof proof
made_writable digest entries (AskInclusion size index) proof small e =
    seen_writable
    (λ path. Inclusion size index (mth digest (take size entries)) (digest (0 ∷ slice_index_or entries index [])) path) proof
    (inclusion_in digest entries size index) (λ path made. path_writable digest entries size index path small made) e
made_writable digest entries (AskConsistency first second) proof small e =
    seen_writable
    (λ path. Consistency first (mth digest (take first entries)) second (mth digest (take second entries)) path) proof
    (consistency_in digest entries first second) (λ path made. proof_writable digest entries first second path small made) e

-- ---- the tree of the proof

-- the proof that the reader of all entries makes is the requested one
module _ (ask : Ask) (n : ℕ) (whole : size_asked ask ≡ n) where
  module _ (size index : ℕ) (is : ask ≡ AskInclusion size index) where
    size_is : size ≡ n
    size_is = ap size_asked (sym is) ∙ whole

    pub inclusion_within : IsWithin ask n → index < n
    inclusion_within within =
        let there = subst (λ a. IsWithin a n) is within in omega (arith, there.0, there.1)

    pub inclusion_in_tree : (root : List ℕ) (proof : Proof) → IsInclusionIn n index root proof → IsInTree root ask proof
    inclusion_in_tree root (Inclusion n' i r leaf path) p =
        subst (λ a. IsInTree root a (Inclusion n' i r leaf path)) (sym is) (p.0 ∙ sym size_is, p.1, p.2)
    inclusion_in_tree root (Consistency m first_root n' r path) p = absurd p

    pub inclusion_whole : (digest : List ℕ → List ℕ) (entries : List (List ℕ)) (proof : Proof) → n ≡ length entries →
        asked_proof digest entries (AskInclusion (length entries) index) ≡ Ok proof → IsMadeOf digest ask entries proof
    inclusion_whole digest entries proof all made =
        ap (asked_proof digest entries) (is ∙ ap (λ m. AskInclusion m index) (size_is ∙ all)) ∙ made

  module _ (first second : ℕ) (is : ask ≡ AskConsistency first second) where
    second_is : second ≡ n
    second_is = ap size_asked (sym is) ∙ whole

    pub consistency_within : IsWithin ask n → (0 < first) × (first ≤ n)
    consistency_within within =
        let there = subst (λ a. IsWithin a n) is within in (there.1, omega (arith, there.0, there.2))

    pub consistency_in_tree : (root : List ℕ) (proof : Proof) → IsConsistencyTo first n root proof → IsInTree root ask proof
    consistency_in_tree root (Inclusion n' i r leaf path) p = absurd p
    consistency_in_tree root (Consistency m first_root n' r path) p =
        subst (λ a. IsInTree root a (Consistency m first_root n' r path)) (sym is) (p.0, p.1 ∙ sym second_is, p.2)

    pub consistency_whole : (digest : List ℕ → List ℕ) (entries : List (List ℕ)) (proof : Proof) → n ≡ length entries →
        asked_proof digest entries (AskConsistency first (length entries)) ≡ Ok proof → IsMadeOf digest ask entries proof
    consistency_whole digest entries proof all made =
        ap (asked_proof digest entries) (is ∙ ap (λ m. AskConsistency first m) (second_is ∙ all)) ∙ made

pub first_made : (digest : List ℕ → List ℕ) (entries : List (List ℕ)) (n : ℕ) (ask : Ask) (proof : Proof) →
    n ≡ length entries → IsWithin ask n → IsMadeOf digest ask (take (size_asked ask) entries) proof →
    IsMadeOf digest ask entries proof
first_made digest entries n (AskInclusion size index) proof all within made =
    let upto : size ≤ length entries = omega (arith, within.0, all) in
    let long : length (take size entries) ≡ size = length-take-le size entries upto in
    sym (first_inclusion digest entries size upto index within.1)
    ∙ (ap (λ m. asked_proof digest (take size entries) (AskInclusion m index)) long ∙ made)
first_made digest entries n (AskConsistency first second) proof all within made =
    let upto : second ≤ length entries = omega (arith, within.0, all) in
    let long : length (take second entries) ≡ second = length-take-le second entries upto in
    sym (first_consistency digest entries second upto first within.1 within.2)
    ∙ (ap (λ m. asked_proof digest (take second entries) (AskConsistency first m)) long ∙ made)

pub within_size : (ask : Ask) (n : ℕ) → IsWithin ask n → size_asked ask ≤ n
within_size (AskInclusion size index) n within = within.0
within_size (AskConsistency first second) n within = within.0

-- a proof in the tree of a root of that size is the requested one
pub in_tree_asked : (digest : List ℕ → List ℕ) (size : ℕ) (root first_root : List ℕ) (ask : Ask) (proof : Proof) →
    size_asked ask ≤ size → IsRootOf digest size root (size_asked ask) first_root → IsInTree first_root ask proof →
    IsAsked digest size root ask proof
in_tree_asked digest size root first_root (AskInclusion n i) (Inclusion n' i' r leaf path) within is p =
    (p.0, p.1, within, subst (IsRootOf digest size root n) (sym p.2) is)
in_tree_asked digest size root first_root (AskInclusion n i) (Consistency m r n' r' path) within is p = absurd p
in_tree_asked digest size root first_root (AskConsistency m n) (Inclusion n' i r leaf path) within is p = absurd p
in_tree_asked digest size root first_root (AskConsistency m n) (Consistency m' r n' r' path) within is p =
    (p.0, p.1, within, subst (IsRootOf digest size root n) (sym p.2) is)
