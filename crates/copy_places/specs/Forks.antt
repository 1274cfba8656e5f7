-- The evidence that no log has made two checkpoints (RFC 9162, section 2.1.4): that of a fork line.
use Rattle.std.specs.Prelude.{◌≡◌, ◌≢◌, ◌⊎◌, ℕ, ◌<◌, List, [], length, reverse, true, Contains, Option, Some, None, ⊤}
use Rattle.tlog_hash.specs.Tree.{mth, strings}
use Rattle.tlog_hash.specs.Shape.{shape}
use Rattle.tlog_proof.specs.Consistency.{IsConsistency, IsHashedBoth}
use Rattle.tlog_proof.specs.Laws.{HasNoClash}
use Rattle.tlog_proof.specs.Text.{HasHashes}
use Rattle.tlog_proof.specs.declared.proof.Proof.{Proof}
use Rattle.tlog_proof.specs.declared.proof.Proof.TheVariants.{Inclusion, Consistency}
use Rattle.mirror_model.specs.Strings.{IsDigest}
use Rattle.mirror_model.specs.Forks.{IsPrefix, Point}

module _ (digest : List ℕ → List ℕ) where
  -- the proof is an accepted consistency proof from the smaller size into the larger point, and its first root differs from the
  -- root of the smaller point
  pub record IsForkProof (small large : Point) (first : ℕ) (first_root : List ℕ) (second : ℕ)
      (second_root : List ℕ) (path : List (List ℕ)) : Type 0 where
    pub first_is : first ≡ small.size
    pub second_is : second ≡ large.size
    pub root_is : second_root ≡ large.root
    pub grows : first < second
    pub accepted : IsConsistency digest first first_root second second_root path
    pub hashes : HasHashes (Consistency first first_root second second_root path)
    pub differs : first_root ≢ small.root

  -- the evidence of a fork of two points, the smaller first. Without a proof: one size and different roots, or no entries and a
  -- root that is not the hash of the empty list
  abbrev pub ShowsFork : Point → Point → Option Proof → Type 0
  ShowsFork small large None =
      ((small.size ≡ large.size) × (small.root ≢ large.root))
      ⊎ ((small.size ≡ 0) × (small.root ≢ digest []))
  ShowsFork small large (Some (Inclusion size index root leaf path)) = ⊥
  ShowsFork small large (Some (Consistency first first_root second second_root path)) =
      IsForkProof small large first first_root second second_root path

  -- the string is hashed in the check of the proof, or for the tree hash of the entries
  abbrev pub IsMetByFork : Proof → List (List ℕ) → List ℕ → Type 0
  IsMetByFork (Inclusion size index root leaf path) entries string = ⊥
  IsMetByFork (Consistency first first_root second second_root path) entries string =
      IsHashedBoth digest (shape second) first true first_root (reverse path) string
      ⊎ Contains (strings digest entries) string

  -- no two different strings of the check of the proof and of the entries' tree share a digest. Without a proof, it always holds
  abbrev pub LacksForkClash : Option Proof → List (List ℕ) → Type 0
  LacksForkClash None entries = ⊤
  LacksForkClash (Some proof) entries = HasNoClash digest (IsMetByFork proof entries)

  -- the list has the size and the root of the point
  pub record HasPoint (point : Point) (entries : List (List ℕ)) : Type 0 where
    pub size_is : length entries ≡ point.size
    pub root_is : mth digest entries ≡ point.root

-- a fork line has two sizes and roots. A list with the first pair does not begin a list with the second one. Premise: no two
-- different strings of the check of the proof and of the second list's tree share a digest
abbrev pub ForkLineIsEvidence : Type 0
ForkLineIsEvidence =
    (digest : List ℕ → List ℕ) → IsDigest digest → (small large : Point) (proof : Option Proof) →
    ShowsFork digest small large proof → (first second : List (List ℕ)) → HasPoint digest small first →
    HasPoint digest large second → LacksForkClash digest proof second → ¬ IsPrefix first second
