-- Laws of the standards for the definitions in Inclusion.antt and Consistency.antt.
use Rattle.std.specs.Prelude.{◌≡◌, ◌⊎◌, ℕ, ◌+◌, ◌-◌, ◌^◌, ◌<◌, ◌≤◌, Bool, true, false, List, []}
use Rattle.std.specs.Prelude.{◌∷◌, ◌++◌, length, reverse, take, drop, Option, Some, None}
use Rattle.std.specs.Prelude.{slice_index_or}
use Rattle.std.specs.List.{Contains}
use Rattle.std.specs.Option.{option_map}
use Rattle.tlog_shape.specs.Split.{split_of}
use Rattle.tlog_hash.specs.Tree.{mth, strings}
use Rattle.tlog_hash.specs.Shape.{shape}
use Rattle.tlog_proof.specs.Inclusion.{path_of, incl, IsInclusion, IsHashed}
use Rattle.tlog_proof.specs.Consistency.{at_end, both_right, both_left, subproof_of, proof_of, cons}
use Rattle.tlog_proof.specs.Consistency.{IsConsistency, IsHashedBoth}

-- ---- making proofs

-- path meets the equations of PATH (RFC 6962, section 2.1.1)
pub record IsPathMaker (digest : List ℕ → List ℕ) (path : ℕ → List (List ℕ) → List (List ℕ))
    : Type 0 where
  pub one : (entry : List ℕ) → path 0 (entry ∷ []) ≡ []
  pub left :
      (m : ℕ) (entries : List (List ℕ)) → 2 ≤ length entries → m < split_of (length entries) →
      let k = split_of (length entries) in
      path m entries ≡ path m (take k entries) ++ mth digest (drop k entries) ∷ []
  pub right :
      (m : ℕ) (entries : List (List ℕ)) → split_of (length entries) ≤ m → m < length entries →
      2 ≤ length entries → let k = split_of (length entries) in
      path m entries ≡ path (m - k) (drop k entries) ++ mth digest (take k entries) ∷ []

-- path_of meets the equations of PATH, and any other such function agrees with it for each entry of
-- a list
abbrev pub PathEquations : Type 0
PathEquations =
    (digest : List ℕ → List ℕ) →
    IsPathMaker digest (path_of digest)
    × ((path : ℕ → List (List ℕ) → List (List ℕ)) → IsPathMaker digest path →
    (m : ℕ) (entries : List (List ℕ)) → m < length entries →
    path m entries ≡ path_of digest m entries)

-- subproof meets the equations of SUBPROOF (RFC 6962, section 2.1.2)
pub record IsSubproofMaker (digest : List ℕ → List ℕ)
    (subproof : ℕ → List (List ℕ) → Bool → List (List ℕ)) : Type 0 where
  pub held :
      (entries : List (List ℕ)) → 1 ≤ length entries → subproof (length entries) entries true ≡ []
  pub whole :
      (entries : List (List ℕ)) → 1 ≤ length entries →
      subproof (length entries) entries false ≡ mth digest entries ∷ []
  pub left :
      (m : ℕ) (entries : List (List ℕ)) (flag : Bool) → 0 < m → m < length entries →
      m ≤ split_of (length entries) → let k = split_of (length entries) in
      subproof m entries flag ≡ subproof m (take k entries) flag ++ mth digest (drop k entries) ∷ []
  pub right :
      (m : ℕ) (entries : List (List ℕ)) (flag : Bool) → m < length entries →
      split_of (length entries) < m → let k = split_of (length entries) in
      subproof m entries flag
      ≡ subproof (m - k) (drop k entries) false ++ mth digest (take k entries) ∷ []

-- PROOF(m, D[n]) is SUBPROOF(m, D[n], true). SUBPROOF meets its equations, and any other such
-- function agrees with it for 0 < m <= n
abbrev pub ProofEquations : Type 0
ProofEquations =
    (digest : List ℕ → List ℕ) →
    ((m : ℕ) (entries : List (List ℕ)) →
    proof_of digest m entries ≡ subproof_of digest m entries true)
    × IsSubproofMaker digest (subproof_of digest)
    × ((subproof : ℕ → List (List ℕ) → Bool → List (List ℕ)) → IsSubproofMaker digest subproof →
    (m : ℕ) (entries : List (List ℕ)) (flag : Bool) → 0 < m → m ≤ length entries →
    subproof m entries flag ≡ subproof_of digest m entries flag)

-- for at most 2^j entries, an inclusion path has at most j hashes, and a consistency path at most j
-- + 1
abbrev pub PathsAreShort : Type 0
PathsAreShort =
    (digest : List ℕ → List ℕ) (j : ℕ) (entries : List (List ℕ)) → length entries ≤ 2 ^ j →
    ((i : ℕ) → length (path_of digest i entries) ≤ j)
    × ((m : ℕ) → 0 < m → m ≤ length entries → length (proof_of digest m entries) ≤ j + 1)

-- ---- checking proofs

-- read meets the equations that reverse PATH: the last hash of a path is the one nearest to the
-- root (RFC 9162, section 2.1.3)
pub record IsPathReader (digest : List ℕ → List ℕ)
    (read : ℕ → ℕ → List ℕ → List (List ℕ) → Option (List ℕ)) : Type 0 where
  pub none : (i : ℕ) (leaf : List ℕ) (path : List (List ℕ)) → read i 0 leaf path ≡ None
  pub one : (i : ℕ) (leaf : List ℕ) → read i 1 leaf [] ≡ Some leaf
  pub one_long :
      (i : ℕ) (leaf hash : List ℕ) (path : List (List ℕ)) → read i 1 leaf (path ++ hash ∷ []) ≡ None
  pub short : (i n : ℕ) (leaf : List ℕ) → 2 ≤ n → read i n leaf [] ≡ None
  pub left :
      (i n : ℕ) (leaf hash : List ℕ) (path : List (List ℕ)) → 2 ≤ n → i < split_of n →
      read i n leaf (path ++ hash ∷ [])
      ≡ option_map (λ v. digest (1 ∷ v ++ hash)) (read i (split_of n) leaf path)
  pub right :
      (i n : ℕ) (leaf hash : List ℕ) (path : List (List ℕ)) → 2 ≤ n → split_of n ≤ i →
      read i n leaf (path ++ hash ∷ [])
      ≡ option_map (λ v. digest (1 ∷ hash ++ v)) (read (i - split_of n) (n - split_of n) leaf path)

-- incl meets the equations that reverse PATH, and it is the only such function
abbrev pub InclEquations : Type 0
InclEquations =
    (digest : List ℕ → List ℕ) →
    IsPathReader digest (incl digest)
    × ((read : ℕ → ℕ → List ℕ → List (List ℕ) → Option (List ℕ)) → IsPathReader digest read →
    (i n : ℕ) (leaf : List ℕ) (path : List (List ℕ)) →
    read i n leaf path ≡ incl digest i n leaf path)

-- read meets the equations that reverse SUBPROOF (RFC 9162, section 2.1.4)
pub record IsSubproofReader (digest : List ℕ → List ℕ)
    (read : ℕ → ℕ → Bool → List ℕ → List (List ℕ) → Option (List ℕ × List ℕ)) : Type 0 where
  pub none :
      (n : ℕ) (flag : Bool) (root : List ℕ) (path : List (List ℕ)) → read 0 n flag root path ≡ None
  pub beyond :
      (m n : ℕ) (flag : Bool) (root : List ℕ) (path : List (List ℕ)) → n < m →
      read m n flag root path ≡ None
  pub whole :
      (n : ℕ) (flag : Bool) (root : List ℕ) (path : List (List ℕ)) → 1 ≤ n →
      read n n flag root path ≡ at_end flag root path
  pub short : (m n : ℕ) (flag : Bool) (root : List ℕ) → 0 < m → m < n → read m n flag root [] ≡ None
  pub left :
      (m n : ℕ) (flag : Bool) (root hash : List ℕ) (path : List (List ℕ)) → 0 < m → m < n →
      m ≤ split_of n → read m n flag root (path ++ hash ∷ [])
      ≡ option_map (both_right digest hash) (read m (split_of n) flag root path)
  pub right :
      (m n : ℕ) (flag : Bool) (root hash : List ℕ) (path : List (List ℕ)) → m < n → split_of n < m →
      read m n flag root (path ++ hash ∷ [])
      ≡ option_map (both_left digest hash) (read (m - split_of n) (n - split_of n) false root path)

-- cons meets the equations that reverse SUBPROOF, and it is the only such function
abbrev pub ConsEquations : Type 0
ConsEquations =
    (digest : List ℕ → List ℕ) →
    IsSubproofReader digest (cons digest)
    × ((read : ℕ → ℕ → Bool → List ℕ → List (List ℕ) → Option (List ℕ × List ℕ)) →
    IsSubproofReader digest read →
    (m n : ℕ) (flag : Bool) (root : List ℕ) (path : List (List ℕ)) →
    read m n flag root path ≡ cons digest m n flag root path)

-- ---- a proof that was made is accepted

-- the path made for an entry is accepted for its leaf hash, its index, and the size and tree hash
-- of the list
abbrev pub MadeInclusionHolds : Type 0
MadeInclusionHolds =
    (digest : List ℕ → List ℕ) (entries : List (List ℕ)) (i : ℕ) → i < length entries →
    IsInclusion digest (digest (0 ∷ slice_index_or entries i [])) i (length entries)
    (path_of digest i entries) (mth digest entries)

-- the path made from m entries to all entries leads to both tree hashes, and it is accepted, for
-- equal sizes too
abbrev pub MadeConsistencyHolds : Type 0
MadeConsistencyHolds =
    (digest : List ℕ → List ℕ) (entries : List (List ℕ)) (m : ℕ) → 0 < m → m ≤ length entries →
    (cons digest m (length entries) true (mth digest (take m entries)) (proof_of digest m entries)
    ≡ Some (mth digest (take m entries), mth digest entries))
    × IsConsistency digest m (mth digest (take m entries)) (length entries) (mth digest entries)
    (proof_of digest m entries)

-- ---- an accepted proof shows the truth

-- two strings with the property P and the same digest are equal
abbrev pub HasNoClash : (List ℕ → List ℕ) → (List ℕ → Type 0) → Type 0
HasNoClash digest P = (x y : List ℕ) → P x → P y → digest x ≡ digest y → x ≡ y

-- the string is hashed by the check, is that of the entry, or is hashed by the tree hash of the
-- entries
abbrev pub IsMetByInclusion :
    (List ℕ → List ℕ) → List (List ℕ) → ℕ → List ℕ → List (List ℕ) → List ℕ → Type 0
IsMetByInclusion digest entries i entry path string =
    (string ≡ 0 ∷ entry)
    ⊎ (IsHashed digest (shape (length entries)) i (digest (0 ∷ entry)) (reverse path) string
    ⊎ Contains (strings digest entries) string)

-- a path that is accepted for index i of a list shows that entry, unless two of the hashed strings
-- collide
abbrev pub AcceptedInclusionShows : Type 0
AcceptedInclusionShows =
    (digest : List ℕ → List ℕ) → ((s : List ℕ) → length (digest s) ≡ 32) →
    (entries : List (List ℕ)) (i : ℕ) (entry : List ℕ) (path : List (List ℕ)) →
    HasNoClash digest (IsMetByInclusion digest entries i entry path) →
    IsInclusion digest (digest (0 ∷ entry)) i (length entries) path (mth digest entries) →
    slice_index_or entries i [] ≡ entry

-- the string is hashed by the check, or by the tree hash of either list
abbrev pub IsMetByConsistency : (List ℕ → List ℕ) → (ds es path : List (List ℕ)) → List ℕ → Type 0
IsMetByConsistency digest ds es path string =
    IsHashedBoth digest (shape (length es)) (length ds) true (mth digest ds) (reverse path) string
    ⊎ (Contains (strings digest ds) string ⊎ Contains (strings digest es) string)

-- a path that is accepted for the sizes and roots of two lists shows that the first is a prefix of
-- the second, unless two of the hashed strings collide
abbrev pub AcceptedConsistencyShows : Type 0
AcceptedConsistencyShows =
    (digest : List ℕ → List ℕ) → ((s : List ℕ) → length (digest s) ≡ 32) →
    (ds es path : List (List ℕ)) → ((hash : List ℕ) → Contains path hash → length hash ≡ 32) →
    HasNoClash digest (IsMetByConsistency digest ds es path) →
    IsConsistency digest (length ds) (mth digest ds) (length es) (mth digest es) path →
    ds ≡ take (length ds) es
