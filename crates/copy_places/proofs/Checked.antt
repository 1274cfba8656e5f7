-- A proof that a reader gave shows a fork if its first root differs.
use Rattle.std.proofs.Common.{◌≡◌, ℕ, ◌<◌, List, length, take, Option, Some, None, Result, Ok, Err, sym, subst, arith}
use Rattle.std.proofs.lemmas.List.{length-take-le}
use Rattle.std.specs.Prelude.{IfNone, IfSome}
use Rattle.tlog_text.specs.Answers.{seen}
use Rattle.tlog_hash.specs.Tree.{mth}
use Rattle.tlog_proof.specs.Text.{HasHashes}
use Rattle.tlog_proof.specs.Made.{Holds, asked_proof, consistency_in}
use Rattle.tlog_proof.specs.declared.make.ProofFault.{ProofFault}
use Rattle.tlog_proof.specs.declared.proof.Ask.TheVariants.{Consistency as AskConsistency}
use Rattle.tlog_proof.specs.declared.proof.Proof.{Proof}
use Rattle.tlog_proof.specs.declared.proof.Proof.TheVariants.{Inclusion, Consistency}
use Rattle.log_reader.specs.Proving.{IsConsistencyTo}
use Rattle.copy_places.specs.Agreeing.{Agrees}
use Rattle.copy_places.specs.Checked.{HasFirstRoot}
use Rattle.copy_places.specs.Forks.{HasPoint}
use Rattle.copy_places.specs.Shown.{ShowsLarger}
use Rattle.copy_places.specs.Candidates.{point_of}
use Rattle.copy_places.specs.declared.candidate.Candidate.{Candidate}

module _ (digest : List ℕ → List ℕ) (small large : Candidate) (lt : small.size.0 < large.size.0) where
  differs : (proof : Proof) → IsConsistencyTo small.size.0 large.size.0 large.root proof → Holds digest proof →
      HasHashes proof → (HasFirstRoot small.root proof → ⊥) → ShowsLarger digest small large (Some proof)
  differs (Inclusion s i r leaf path) asked held hashes other = absurd asked
  differs (Consistency m g n r path) asked held hashes other = (
    lt,
    record {
      first_is = asked.0;
      second_is = asked.1;
      root_is = asked.2;
      grows = omega (arith, asked.0, asked.1, lt);
      accepted = held;
      hashes = hashes;
      differs = other;
    },
  )

  -- a proof whose first root is that of the smaller candidate shows that the two agree
  agrees : (proof : Proof) → IsConsistencyTo small.size.0 large.size.0 large.root proof → Holds digest proof →
      HasHashes proof → HasFirstRoot small.root proof → Agrees digest (point_of small) (point_of large)
  agrees (Inclusion s i r leaf path) asked held hashes is = absurd asked
  agrees (Consistency m g n r path) asked held hashes is = record {
    proof = Some (Consistency m g n r path);
    shown = record {
      first_is = asked.0;
      first_root_is = is;
      second_is = asked.1;
      root_is = asked.2;
      grows = omega (arith, asked.0, asked.1, lt);
      accepted = held;
      hashes = hashes;
    };
  }

  module _ (proof : Proof) (asked : IsConsistencyTo small.size.0 large.size.0 large.root proof)
      (held : Holds digest proof) (hashes : HasHashes proof) where
    pub checked_fork : (found : Option Proof) →
        IfSome found (λ p. (p ≡ proof) × (HasFirstRoot small.root proof → ⊥)) →
        IfSome found (λ p. ShowsLarger digest small large (Some p))
    checked_fork None some = tt
    checked_fork (Some p) some =
        subst (λ q. ShowsLarger digest small large (Some q)) (sym some.0) (differs proof asked held hashes some.1)

    pub checked_agree : (found : Option Proof) → IfNone found (HasFirstRoot small.root proof) → found ≡ None →
        Agrees digest (point_of small) (point_of large)
    checked_agree None none is = agrees proof asked held hashes none
    checked_agree (Some p) none is = absurd (cc is)

-- ---- a proof that was made from a log

module _ (digest : List ℕ → List ℕ) (entries : List (List ℕ)) where
  -- its first root is the tree hash of the first entries
  first_root_is : (first second : ℕ) (proof : Proof) (root : List ℕ) (r : Result (List (List ℕ)) ProofFault) →
      seen (λ path. Consistency first (mth digest (take first entries)) second (mth digest (take second entries)) path) r
      ≡ Ok proof → HasFirstRoot root proof → mth digest (take first entries) ≡ root
  first_root_is first second proof root (Ok path) is has =
      let same : proof ≡ Consistency first (mth digest (take first entries)) second (mth digest (take second entries)) path =
      sym (cc is) in
      subst (HasFirstRoot root) same has
  first_root_is first second proof root (Err fault) is has = absurd (cc is)

  -- so if it is the smaller root, the first entries have the smaller point
  pub first_agrees : (small : Candidate) (second : ℕ) → small.size.0 < second → length entries ≡ second → (proof : Proof) →
      asked_proof digest entries (AskConsistency small.size.0 (length entries)) ≡ Ok proof → (found : Option Proof) →
      IfNone found (HasFirstRoot small.root proof) → found ≡ None →
      HasPoint digest (point_of small) (take small.size.0 entries)
  first_agrees small second less long proof asked None none is = record {
    size_is = length-take-le small.size.0 entries (omega (arith, less, long));
    root_is = first_root_is small.size.0 (length entries) proof small.root
        (consistency_in digest entries small.size.0 (length entries)) asked none;
  }
  first_agrees small second less long proof asked (Some p) none is = absurd (cc is)
