-- The text of a proof of the definitions is that of a requested and accepted proof.
use Rattle.std.proofs.Common.{◌≡◌, ℕ, ◌<◌, ◌≤◌, List, [], length, take, get_or, Result, Ok, Err, refl, sym, ap, subst, ◌∙◌, inl, inr, arith}
use Rattle.std.proofs.lemmas.Bool.{cases_lt, eq-eqb, le-leb, le-ltb, lt-ltb, ne_eqb}
use Rattle.std.proofs.lemmas.List.{get_or-take, length-take-le, take-take}
use Rattle.tlog_shape.specs.declared.TheConstants.{MAX_SIZE}
use Rattle.tlog_hash.specs.Tree.{leaf_hash, mth}
use Rattle.tlog_proof.specs.Consistency.{proof_of}
use Rattle.tlog_proof.specs.Inclusion.{path_of}
use Rattle.tlog_proof.specs.Made.{asked_proof, Holds}
use Rattle.tlog_proof.specs.Text.{IsProofText}
use Rattle.tlog_proof.specs.declared.make.ProofFault.{ProofFault}
use Rattle.tlog_proof.specs.declared.make.ProofFault.TheVariants.{NoSuchSize, NoSuchIndex, FirstIsZero, Backwards}
use Rattle.tlog_proof.specs.declared.proof.Ask.{Ask}
use Rattle.tlog_proof.specs.declared.proof.Ask.TheVariants.{Inclusion as AskInclusion, Consistency as AskConsistency}
use Rattle.tlog_proof.specs.declared.proof.Proof.{Proof}
use Rattle.tlog_proof.specs.declared.proof.Proof.TheVariants.{Inclusion, Consistency}
use Rattle.mirror_model.specs.Strings.{IsDigest}
use Rattle.log_reader.proofs.Asked.{consistency_asked, consistency_holds, inclusion_asked, inclusion_holds}
use Rattle.copy_reader.specs.Proofs.{IsAsked, IsMadeOf, IsProofOf, IsWithin}
use Rattle.copy_reader.specs.Shown.{IsRootOf}
use Rattle.copy_reader.proofs.ShownRoots.{root_is_shown}

not_refused : (result : Result Proof ProofFault) (proof : Proof) (fault : ProofFault) → result ≡ Ok proof →
    result ≡ Err fault → ⊥
not_refused result proof fault made refused = let e : Err fault ≡ Ok proof = sym refused ∙ made in absurd (cc e)

positive_is_not : (m : ℕ) → 0 < m → m ≡ 0 → ⊥
positive_is_not m some none = omega (arith, some, none)

module _ (digest : List ℕ → List ℕ) (entries : List (List ℕ)) where
  abbrev n : ℕ
  n = length entries

  abbrev answer : Ask → Result Proof ProofFault
  answer ask = asked_proof digest entries ask

  pub made_within : (ask : Ask) (proof : Proof) → IsMadeOf digest ask entries proof → IsWithin ask n
  made_within (AskInclusion size index) proof made = elim (cases_lt n size) [
    | inl less ↦
        let no : answer (AskInclusion size index) ≡ Err NoSuchSize = rw (lt-ltb n size less) in
        absurd (not_refused (answer (AskInclusion size index)) proof NoSuchSize made no)
    | inr upto ↦ elim (cases_lt index size) [
      | inl below ↦ (omega (arith, upto), below)
      | inr behind ↦
          let no : answer (AskInclusion size index) ≡ Err NoSuchIndex =
          rw (le-ltb n size (omega (arith, upto)), le-leb size index (omega (arith, behind))) in
          absurd (not_refused (answer (AskInclusion size index)) proof NoSuchIndex made no)
    ]
  ]
  made_within (AskConsistency first second) proof made = elim (cases_lt n second) [
    | inl less ↦
        let no : answer (AskConsistency first second) ≡ Err NoSuchSize = rw (lt-ltb n second less) in
        absurd (not_refused (answer (AskConsistency first second)) proof NoSuchSize made no)
    | inr upto ↦ elim (cases_lt 0 first) [
      | inl some ↦ elim (cases_lt second first) [
        | inl less ↦
            let no : answer (AskConsistency first second) ≡ Err Backwards =
            rw (le-ltb n second (omega (arith, upto)), ne_eqb first 0 (positive_is_not first some), lt-ltb second first less) in
            absurd (not_refused (answer (AskConsistency first second)) proof Backwards made no)
        | inr fits ↦ (omega (arith, upto), some, omega (arith, fits))
      ]
      | inr none ↦
          let no : answer (AskConsistency first second) ≡ Err FirstIsZero =
          rw (le-ltb n second (omega (arith, upto)), eq-eqb first 0 (omega (arith, none))) in
          absurd (not_refused (answer (AskConsistency first second)) proof FirstIsZero made no)
    ]
  ]

  module _ (hash : IsDigest digest) (small : n ≤ MAX_SIZE) where
    abbrev root : List ℕ
    root = mth digest entries

    root_of : (size : ℕ) → size ≤ n → IsRootOf digest n root size (mth digest (take size entries))
    root_of size within = inr (root_is_shown digest hash entries (omega (arith, small)) size within)

    -- the proof is the requested one, and is accepted
    abbrev IsAccepted : Ask → Proof → Type 0
    IsAccepted ask proof = IsAsked digest n root ask proof × Holds digest proof

    accepted : (ask : Ask) (proof : Proof) → IsMadeOf digest ask entries proof → IsAccepted ask proof
    accepted (AskInclusion size index) proof made =
        let within = made_within (AskInclusion size index) proof made in
        let firsts = take size entries in
        let leaf = leaf_hash digest (get_or entries index []) in
        let own = Inclusion size index (mth digest firsts) leaf (path_of digest index firsts) in
        let e : Ok own ≡ Ok proof = sym (inclusion_asked digest entries size index within.0 within.1) ∙ made in
        let same : own ≡ proof = cc e in
        subst (IsAccepted (AskInclusion size index)) same (
          (refl, refl, within.0, root_of size within.0),
          inclusion_holds digest firsts size index (mth digest firsts) leaf (path_of digest index firsts)
              (sym (length-take-le size entries within.0)) within.1 refl
              (ap (leaf_hash digest) (sym (get_or-take size entries index [] within.1))) refl,
        )
    accepted (AskConsistency first second) proof made =
        let within = made_within (AskConsistency first second) proof made in
        let firsts = take second entries in
        let first_root = mth digest (take first entries) in
        let own = Consistency first first_root second (mth digest firsts) (proof_of digest first firsts) in
        let e : Ok own ≡ Ok proof =
        sym (consistency_asked digest entries first second within.0 within.1 within.2) ∙ made in
        let same : own ≡ proof = cc e in
        subst (IsAccepted (AskConsistency first second)) same (
          (refl, refl, within.0, root_of second within.0),
          consistency_holds digest firsts first second first_root (mth digest firsts) (proof_of digest first firsts)
              (sym (length-take-le second entries within.0)) within.1 within.2
              (ap (mth digest) (sym (take-take first second entries within.2))) refl refl,
        )

    pub made_is_proof : (ask : Ask) (proof : Proof) (text : List ℕ) → IsMadeOf digest ask entries proof →
        IsProofText text proof → IsProofOf digest n root ask text
    made_is_proof ask proof text made text_is =
        let is = accepted ask proof made in record { proof = proof; asked = is.0; holds = is.1; text_is = text_is }
