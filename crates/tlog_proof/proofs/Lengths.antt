-- The number of hashes of a path.
use Rattle.std.proofs.Common.{Bool, true, false, ◌≡◌, ℕ, zero, suc, ◌+◌, ◌-◌, ◌*◌, ◌^◌, ◌<◌, ◌≤◌, List, [], ◌∷◌, ◌++◌}
use Rattle.std.proofs.Common.{length, take, drop, Ok, inl, inr, refl, ap, arith, length-take, length-drop}
use Rattle.std.proofs.Common.{length-append}
use Rattle.std.proofs.lemmas.Bool.{cases_lt, lt-ltb, le-ltb}
use Rattle.std.proofs.Math.Nat.{pow-succ'}
use Rattle.std.specs.Prelude.{if◌then◌else◌}
use Rattle.tlog_shape.specs.Split.{split_of}
use Rattle.tlog_shape.proofs.Splits.{split_of-below, split_of-half, split_of-power, power_at_most}
use Rattle.tlog_hash.specs.Tree.{tree_of, mth}
use Rattle.tlog_hash.proofs.Trees.{tree_of-none, tree_of-one, induction}
use Rattle.tlog_shape.specs.declared.TheConstants.{MAX_SIZE}
use Rattle.tlog_proof.specs.declared.limits.TheConstants.{MAX_PATH}
use Rattle.tlog_proof.specs.Inclusion.{path_in, path_of}
use Rattle.tlog_proof.specs.Consistency.{proof_in, subproof_of, proof_of}
use Rattle.tlog_proof.specs.Laws.{PathsAreShort}
use Rattle.tlog_proof.specs.Made.{inclusion_in, consistency_in}
use Rattle.tlog_proof.proofs.Consistencies.{at_most, not_at_most, equal}
use Rattle.tlog_proof.proofs.Readers.{equal_not}
use Rattle.tlog_proof.proofs.Paths.{left_of, right_of}
use Rattle.tlog_proof.proofs.Subproofs.{all_of, left_of as sub_left_of, right_of as sub_right_of}

-- both parts of a list of at most 2^(j + 1) entries have at most 2^j
record IsHalved (j : ℕ) (es : List (List ℕ)) : Type 0 where
  left : length (take (split_of (length es)) es) ≤ 2 ^ j
  right : length (drop (split_of (length es)) es) ≤ 2 ^ j

halved : (j : ℕ) (es : List (List ℕ)) → 2 ≤ length es → length es ≤ 2 ^ suc j → IsHalved j es
halved j es two fits =
    let k = split_of (length es) in
    let twice : 2 ^ suc j ≡ 2 * 2 ^ j = pow-succ' 2 j in
    let below = split_of-below (length es) two in
    let half = split_of-half (length es) two in
    let small : k ≤ 2 ^ j =
    power_at_most k (2 ^ j) (split_of-power (length es) two) (record { exponent = j; is = refl })
    (omega (arith, below, twice, fits)) in
    record { left = omega (arith, length-take k es, small); right = omega (arith, length-drop k es, small, half) }

length-push : (xs : List (List ℕ)) (x : List ℕ) → length (xs ++ x ∷ []) ≡ length xs + 1
length-push xs x = length-append xs (x ∷ [])

at_most_one : (flag : Bool) (h : List ℕ) → length (if flag then [] else h ∷ []) ≤ 1
at_most_one true h = omega arith
at_most_one false h = omega arith

module _ (digest : List ℕ → List ℕ) where
  abbrev PathsFit : List (List ℕ) → Type 0
  PathsFit es = (j : ℕ) → length es ≤ 2 ^ j → (i : ℕ) → length (path_in digest i (tree_of es)) ≤ j

  paths_fit : (es : List (List ℕ)) → PathsFit es
  paths_fit es = induction PathsFit none one more es
    where
      none : PathsFit []
      none j fits i = omega (arith, ap (λ t. length (path_in digest i t)) (tree_of-none {A = List ℕ}))

      one : (e : List ℕ) → PathsFit (e ∷ [])
      one e j fits i = omega (arith, ap (λ t. length (path_in digest i t)) (tree_of-one e))

      more : (es : List (List ℕ)) → 2 ≤ length es → PathsFit (take (split_of (length es)) es) →
          PathsFit (drop (split_of (length es)) es) → PathsFit es
      more es two l r zero fits i = absurd (omega arith)
      more es two l r (suc j) fits i =
          let h = halved j es two fits in
          elim (cases_lt i (split_of (length es))) [
            | inl inside ↦ omega (
              arith,
              ap length (left_of digest i es two inside),
              length-push (path_in digest i (tree_of (take (split_of (length es)) es)))
                  (mth digest (drop (split_of (length es)) es)),
              l j h.left i,
            )
            | inr past ↦ omega (
              arith,
              ap length (right_of digest i es two past),
              length-push (path_in digest (i - split_of (length es)) (tree_of (drop (split_of (length es)) es)))
                  (mth digest (take (split_of (length es)) es)),
              r j h.right (i - split_of (length es)),
            )
          ]

  abbrev ProofsFit : List (List ℕ) → Type 0
  ProofsFit es =
      (j : ℕ) → length es ≤ 2 ^ j → (m : ℕ) (flag : Bool) → 0 < m → m ≤ length es →
      length (proof_in digest m flag (tree_of es)) ≤ j + 1

  whole_fits : (es : List (List ℕ)) (m : ℕ) (flag : Bool) → 1 ≤ length es → m ≡ length es →
      length (proof_in digest m flag (tree_of es)) ≤ 1
  whole_fits es m flag some is =
      omega (
        arith,
        ap (λ n. length (proof_in digest n flag (tree_of es))) is,
        ap length (all_of digest es flag some),
        at_most_one flag (mth digest es),
      )

  proofs_fit : (es : List (List ℕ)) → ProofsFit es
  proofs_fit es = induction ProofsFit none one more es
    where
      none : ProofsFit []
      none j fits m flag some le = absurd (omega arith)

      one : (e : List ℕ) → ProofsFit (e ∷ [])
      one e j fits m flag some le =
          let fit = whole_fits (e ∷ []) m flag (omega arith) (omega arith) in omega (arith, fit)

      more : (es : List (List ℕ)) → 2 ≤ length es → ProofsFit (take (split_of (length es)) es) →
          ProofsFit (drop (split_of (length es)) es) → ProofsFit es
      more es two l r zero fits m flag some le = absurd (omega arith)
      more es two l r (suc j) fits m flag some le =
          let k = split_of (length es) in
          let below = split_of-below (length es) two in
          let h = halved j es two fits in
          elim (cases_lt m (length es)) [
            | inr all ↦ (let fit = whole_fits es m flag (omega arith) (omega arith) in omega (arith, fit))
            | inl less ↦ elim (cases_lt k m) [
              | inr inside ↦
                  let fit = l j h.left m flag some (omega (arith, length-take k es, below)) in
                  omega (
                    arith,
                    ap length (sub_left_of digest m es flag some less inside),
                    length-push (proof_in digest m flag (tree_of (take k es))) (mth digest (drop k es)),
                    fit,
                  )
              | inl past ↦
                  let fit = r j h.right (m - k) false (omega arith) (omega (arith, length-drop k es)) in
                  omega (
                    arith,
                    ap length (sub_right_of digest m es flag less past),
                    length-push (proof_in digest (m - k) false (tree_of (drop k es))) (mth digest (take k es)),
                    fit,
                  )
            ]
          ]

pub paths_are_short : PathsAreShort
unfolding path_of subproof_of
paths_are_short digest j es fits =
    (λ i. paths_fit digest es j fits i, λ m some le. proofs_fit digest es j fits m true some le)

-- ---- a proof that was made from a list of fewer than 2^63 entries can be written

-- the path was made for these arguments
pub record IsMadePath (digest : List ℕ → List ℕ) (es : List (List ℕ)) (size index : ℕ)
    (path : List (List ℕ)) : Type 0 where
  pub within : size ≤ length es
  pub inside : index < size
  pub path_is : path ≡ path_of digest index (take size es)

pub made_path : (digest : List ℕ → List ℕ) (es : List (List ℕ)) (size index : ℕ) (path : List (List ℕ)) →
    inclusion_in digest es size index ≡ Ok path → IsMadePath digest es size index path
made_path digest es size index path e = elim (cases_lt (length es) size) [
  | inl past ↦ (let refused = rw (lt-ltb (length es) size past) at e in absurd (cc refused))
  | inr within ↦
      let second = rw (le-ltb (length es) size within) at e in
      elim (cases_lt index size) [
        | inr past ↦ (let refused = rw (at_most size index past) at second in absurd (cc refused))
        | inl inside ↦
            (let made =
            rw (not_at_most size index inside) at second in record
            { within = within; inside = inside; path_is = cc made })
      ]
]

-- the path between two sizes was made for these arguments
pub record IsMadeProof (digest : List ℕ → List ℕ) (es : List (List ℕ)) (first second : ℕ)
    (path : List (List ℕ)) : Type 0 where
  pub within : second ≤ length es
  pub some : 0 < first
  pub forward : first ≤ second
  pub path_is : path ≡ proof_of digest first (take second es)

pub made_proof : (digest : List ℕ → List ℕ) (es : List (List ℕ)) (first second : ℕ) (path : List (List ℕ)) →
    consistency_in digest es first second ≡ Ok path → IsMadeProof digest es first second path
made_proof digest es first second path e = elim (cases_lt (length es) second) [
  | inl past ↦ (let refused = rw (lt-ltb (length es) second past) at e in absurd (cc refused))
  | inr within ↦
      let next = rw (le-ltb (length es) second within) at e in
      elim (cases_lt 0 first) [
        | inr none ↦ (let refused = rw (equal first 0 (omega arith)) at next in absurd (cc refused))
        | inl some ↦
            let last = rw (equal_not first 0 some) at next in
            elim (cases_lt second first) [
              | inl back ↦ (let refused = rw (lt-ltb second first back) at last in absurd (cc refused))
              | inr forward ↦
                  (let made =
                  rw (le-ltb second first forward) at last in record
                  { within = within; some = some; forward = forward; path_is = cc made })
            ]
      ]
]

pub path_writable : (digest : List ℕ → List ℕ) (es : List (List ℕ)) (size index : ℕ) (path : List (List ℕ)) →
    length es ≤ MAX_SIZE → inclusion_in digest es size index ≡ Ok path →
    (size ≤ MAX_SIZE) × (index ≤ MAX_SIZE) × (length path ≤ MAX_PATH)
path_writable digest es size index path small e =
    let made = made_path digest es size index path e in
    let fit = (paths_are_short digest 63 (take size es) (omega (arith, length-take size es))).0 index in
    (omega (arith, made.within), omega (arith, made.within, made.inside), omega (arith, fit, ap length made.path_is))

pub proof_writable : (digest : List ℕ → List ℕ) (es : List (List ℕ)) (first second : ℕ) (path : List (List ℕ)) →
    length es ≤ MAX_SIZE → consistency_in digest es first second ≡ Ok path →
    (first ≤ MAX_SIZE) × (second ≤ MAX_SIZE) × (length path ≤ MAX_PATH)
proof_writable digest es first second path small e =
    let made = made_proof digest es first second path e in
    let fit =
    (paths_are_short digest 63 (take second es) (omega (arith, length-take second es))).1 first made.some
    (omega (arith, length-take second es, made.forward, made.within)) in
    (omega (arith, made.within, made.forward), omega (arith, made.within), omega (arith, fit, ap length made.path_is))
