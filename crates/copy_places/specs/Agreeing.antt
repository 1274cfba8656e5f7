-- The evidence that a log that made one checkpoint had made another before it (RFC 9162, section 2.1.4).
use Rattle.std.specs.Prelude.{◌≡◌, ◌⊎◌, ℕ, ◌<◌, List, [], take, Option, Some, None}
use Rattle.tlog_proof.specs.Consistency.{IsConsistency}
use Rattle.tlog_proof.specs.Text.{HasHashes}
use Rattle.tlog_proof.specs.declared.proof.Proof.{Proof}
use Rattle.tlog_proof.specs.declared.proof.Proof.TheVariants.{Inclusion, Consistency}
use Rattle.mirror_model.specs.Strings.{IsDigest}
use Rattle.mirror_model.specs.Forks.{Point}
use Rattle.copy_places.specs.Forks.{HasPoint, LacksForkClash}

module _ (digest : List ℕ → List ℕ) where
  -- the proof is an accepted consistency proof from the smaller point to the larger one
  pub record IsAgreeProof (small large : Point) (first : ℕ) (first_root : List ℕ) (second : ℕ)
      (second_root : List ℕ) (path : List (List ℕ)) : Type 0 where
    pub first_is : first ≡ small.size
    pub first_root_is : first_root ≡ small.root
    pub second_is : second ≡ large.size
    pub root_is : second_root ≡ large.root
    pub grows : first < second
    pub accepted : IsConsistency digest first first_root second second_root path
    pub hashes : HasHashes (Consistency first first_root second second_root path)

  -- the evidence that two points agree, the smaller first. Without a proof: one size and one root, or no entries and the hash of
  -- the empty list
  abbrev pub ShowsAgree : Point → Point → Option Proof → Type 0
  ShowsAgree small large None =
      ((small.size ≡ large.size) × (small.root ≡ large.root))
      ⊎ ((small.size ≡ 0) × (small.root ≡ digest []))
  ShowsAgree small large (Some (Inclusion size index root leaf path)) = ⊥
  ShowsAgree small large (Some (Consistency first first_root second second_root path)) =
      IsAgreeProof small large first first_root second second_root path

  -- the first point agrees with the second
  pub record Agrees (small large : Point) : Type 0 where
    pub proof : Option Proof
    pub shown : ShowsAgree small large proof

-- if two points agree, each list with the second point begins with a list that has the first one. Premise: no two different
-- strings of the check of the proof and of the list's tree share a digest
abbrev pub AgreeingIsOfFirst : Type 0
AgreeingIsOfFirst =
    (digest : List ℕ → List ℕ) → IsDigest digest → (small large : Point) (proof : Option Proof) →
    ShowsAgree digest small large proof → (entries : List (List ℕ)) → HasPoint digest large entries →
    LacksForkClash digest proof entries → HasPoint digest small (take small.size entries)
