-- A fork line is evidence: no log has both points.
use Rattle.std.proofs.Common.{subst, inl, inr, ◌≡◌, ℕ, ◌<◌, ◌≤◌, List, [], ◌∷◌, length, reverse, take, Some, None, true, sym, ap, ◌∙◌, arith}
use Rattle.std.specs.List.{Contains, AllByRecursion}
use Rattle.std.proofs.lemmas.List.{reverse-append, nil_from_length, take_all}
use Rattle.std.proofs.Math.Seq.{take-append_seam}
use Rattle.std.proofs.lemmas.List.Elements.{All-contains_itself, recursion_from_All, All-weaker}
use Rattle.tlog_text.specs.Hash.{Is32Bytes}
use Rattle.tlog_hash.specs.Tree.{mth, strings}
use Rattle.tlog_hash.proofs.Trees.{all-append, mth-none}
use Rattle.tlog_hash.specs.Shape.{shape}
use Rattle.tlog_proof.specs.Consistency.{cons, cons_in, IsHashedBoth}
use Rattle.tlog_proof.specs.declared.proof.Proof.TheVariants.{Inclusion, Consistency}
use Rattle.mirror_model.specs.Strings.{IsDigest}
use Rattle.mirror_model.specs.Forks.{IsPrefix, Point}
use Rattle.copy_places.specs.Forks.{ForkLineIsEvidence, HasPoint, IsForkProof, IsMetByFork, LacksForkClash}
use Rattle.copy_places.proofs.FirstRoots.{shows}

-- a fact about each hash of a path holds for the reversed path
turned : (P : List ℕ → Type 0) (path : List (List ℕ)) → AllByRecursion P path → AllByRecursion P (reverse path)
turned P [] all = tt
turned P (p ∷ path) all =
    subst (AllByRecursion P) (sym (reverse-append (p ∷ []) path))
    (all-append P (reverse path) (p ∷ []) (turned P path all.1) (all.0, tt))

-- hashes have 32 bytes
pub lengths : (path : List (List ℕ)) → AllByRecursion Is32Bytes path → AllByRecursion (λ p. length p ≡ 32) path
lengths [] all = tt
lengths (p ∷ path) all = (all.0.are_32, lengths path all.1)

-- if a list begins another, it is the other's first entries
front : (first second : List (List ℕ)) → IsPrefix first second → take (length first) second ≡ first
front first second p = ap (take (length first)) (sym p.is) ∙ take-append_seam first p.rest

-- a list begins another. If two points of them have one size, they have one root
same_root : (digest : List ℕ → List ℕ) (small large : Point) (first second : List (List ℕ)) →
    HasPoint digest small first → HasPoint digest large second → small.size ≡ large.size → IsPrefix first second →
    small.root ≡ large.root
same_root digest small large first second is_first is_second sizes p =
    let all : length second ≤ length first = omega (arith, is_first.size_is, is_second.size_is, sizes) in
    let same : first ≡ second = sym (front first second p) ∙ take_all (length first) second all in
    sym is_first.root_is ∙ ap (mth digest) same ∙ is_second.root_is

-- no entries have the hash of the empty list
empty_root : (digest : List ℕ → List ℕ) (small : Point) (first : List (List ℕ)) → HasPoint digest small first →
    small.size ≡ 0 → small.root ≡ digest []
empty_root digest small first is_first none =
    let empty : first ≡ [] = nil_from_length first (is_first.size_is ∙ none) in
    sym is_first.root_is ∙ ap (mth digest) empty ∙ mth-none digest

-- an accepted proof into a list has the root of the list's first entries
pub proof_root : (digest : List ℕ → List ℕ) → IsDigest digest → (n m : ℕ) (g root : List ℕ) (path : List (List ℕ))
    (first second : List (List ℕ)) → AllByRecursion (λ p. length p ≡ 32) path → 0 < m → m ≤ n → m ≡ length first →
    n ≡ length second → root ≡ mth digest second →
    LacksForkClash digest (Some (Consistency m g n root path)) second →
    cons digest m n true g path ≡ Some (g, root) → IsPrefix first second → g ≡ mth digest first
unfolding cons
proof_root digest hash n m g root path first second hashes some le m_is n_is root_is clean e p =
    let P : List ℕ → Type 0 = IsMetByFork digest (Consistency m g n root path) second in
    shows digest hash P clean second m true g g (reverse path) some (omega (arith, n_is, le))
    (turned (λ p. length p ≡ 32) path hashes)
    (λ y h. inl (subst (λ k. IsHashedBoth digest (shape k) m true g (reverse path) y) (sym n_is) h))
    (weaken P (strings digest second) (λ y c. inr c))
    (ap (λ k. cons_in digest (shape k) m true g (reverse path)) (sym n_is) ∙ e ∙ (λ i. Some (g, root_is i)))
    ∙ ap (mth digest) (ap (λ k. take k second) m_is ∙ front first second p)
  where
    weaken : (P : List ℕ → Type 0) (ys : List (List ℕ)) → ((y : List ℕ) → Contains ys y → P y) → AllByRecursion P ys
    weaken P ys f = recursion_from_All P ys (All-weaker (Contains ys) P f ys (All-contains_itself ys))

by_proof : (digest : List ℕ → List ℕ) → IsDigest digest → (small large : Point) (m : ℕ) (g : List ℕ) (n : ℕ)
    (root : List ℕ) (path : List (List ℕ)) → IsForkProof digest small large m g n root path →
    (first second : List (List ℕ)) → HasPoint digest small first → HasPoint digest large second →
    LacksForkClash digest (Some (Consistency m g n root path)) second → ¬ IsPrefix first second
by_proof digest hash small large m g n root path f first second is_first is_second clean p = elim f.accepted.1 [
  | inl grown ↦ f.differs
      (proof_root digest hash n m g root path first second (lengths path f.hashes.2) f.accepted.0 (omega (arith, f.grows))
      (f.first_is ∙ sym is_first.size_is) (f.second_is ∙ sym is_second.size_is)
      (f.root_is ∙ sym is_second.root_is) clean grown.1 p
      ∙ is_first.root_is)
  | inr same ↦ absurd (omega (arith, f.grows, same.0))
]

pub fork_line_is_evidence : ForkLineIsEvidence
fork_line_is_evidence digest hash small large None (inl (sizes, roots)) first second is_first is_second clean p =
    roots (same_root digest small large first second is_first is_second sizes p)
fork_line_is_evidence digest hash small large None (inr (none, root)) first second is_first is_second clean p =
    root (empty_root digest small first is_first none)
fork_line_is_evidence digest hash small large (Some (Inclusion size index root leaf path)) shown first second
    is_first is_second clean p = absurd shown
fork_line_is_evidence digest hash small large (Some (Consistency m g n root path)) f first second is_first is_second
    clean p = by_proof digest hash small large m g n root path f first second is_first is_second clean p
