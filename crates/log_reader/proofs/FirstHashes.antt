-- The tree hash of the first entries of a node, and the path from them to all its entries, from those of its parts.
use Rattle.std.proofs.Common.{Bool, false, ◌≡◌, ℕ, ◌+◌, ◌-◌, ◌*◌, ◌<◌, ◌≤◌, List, [], ◌∷◌, ◌++◌, length, take, drop, sym, ap, subst, ◌∙◌, arith}
use Rattle.std.specs.Prelude.{if◌then◌else◌}
use Rattle.std.proofs.Math.Seq.{take-add}
use Rattle.std.proofs.lemmas.List.{drop-drop}
use Rattle.tlog_shape.specs.Split.{IsPowerOfTwo, split_of}
use Rattle.tlog_shape.proofs.Splits.{split_of-half, split_of-positive, split_of-power, split_of-unique}
use Rattle.tlog_hash.specs.Rows.{part}
use Rattle.tlog_hash.specs.Tree.{mth}
use Rattle.tlog_hash.proofs.Trees.{mth-append}
use Rattle.tlog_proof.specs.Consistency.{subproof_of}
use Rattle.tlog_proof.proofs.Parts.{length-part, subproof_of-all, subproof_of-left, subproof_of-right, take-part, then_push}
use Rattle.log_reader.specs.Nodes.{IsSubproofAdded}

-- the first entries of a node, if there are more than its left part has
pub first_join : (digest : List ℕ → List ℕ) (es : List (List ℕ)) (start len k first : ℕ) → 2 ≤ len → k ≡ split_of len →
    start + len ≤ length es → k < first → first ≤ len →
    mth digest (part start first es)
    ≡ digest (1 ∷ mth digest (part start k es) ++ mth digest (part (start + k) (first - k) es))
first_join digest es start len k first two k_is within past upto =
    let j = first - k in
    let sum : k + j ≡ first = omega (arith, past) in
    let xs = part start k es in
    let ys = part (start + k) j es in
    let whole : part start first es ≡ xs ++ ys =
    ap (λ n. take n (drop start es)) (sym sum)
    ∙ (take-add k j (drop start es) ∙ ap (λ (zs : List (List ℕ)). xs ++ take j zs) (drop-drop k start es)) in
    let half : len ≤ 2 * k = omega (arith, k_is, split_of-half len two) in
    let some : 0 < k = omega (arith, k_is, split_of-positive len two) in
    let power : IsPowerOfTwo k = subst IsPowerOfTwo (sym k_is) (split_of-power len two) in
    let at : k ≡ split_of first =
    split_of-unique first k (omega (arith, some, past)) power past (omega (arith, half, upto)) in
    let front : length xs ≡ k = length-part start k es (omega (arith, past, upto, within)) in
    let back : length ys ≡ j = length-part (start + k) j es (omega (arith, sum, upto, within)) in
    let total : length xs + length ys ≡ first = omega (arith, front, back, sum) in
    ap (mth digest) whole
    ∙ mth-append digest xs ys (omega (arith, total, some, past)) (front ∙ (at ∙ ap split_of (sym total)))

-- ---- the path, and the hash of the first entries

module _ (digest : List ℕ → List ℕ) (es : List (List ℕ)) (start n first : ℕ) (held : Bool) (some : 0 < first) (upto : first ≤ n)
    (within : start + n ≤ length es) (old new : List (List ℕ)) (hash : List ℕ) where
  begins : take first (part start n es) ≡ part start first es
  begins = take-part start n first es upto

  -- the first tree is the whole node
  pub whole_added : first ≡ n → hash ≡ mth digest (part start n es) → new ≡ old ++ (if held then [] else hash ∷ []) →
      IsSubproofAdded digest (part start n es) first held old new hash
  whole_added all hash_is added = record {
    path_is = added ∙ ap (λ (more : List (List ℕ)). old ++ more)
        (ap (λ h. if held then [] else h ∷ []) hash_is ∙ sym (subproof_of-all digest es start n first held all some within));
    hash_is = hash_is ∙ ap (mth digest) (ap (λ m. part start m es) (sym all) ∙ sym begins);
  }

  module _ (k : ℕ) (two : 2 ≤ n) (k_is : k ≡ split_of n) (mid : List (List ℕ)) where
    -- the left part has all of the first entries
    pub left_added : first ≤ k → IsSubproofAdded digest (part start k es) first held old mid hash →
        new ≡ mid ++ mth digest (part (start + k) (n - k) es) ∷ [] →
        IsSubproofAdded digest (part start n es) first held old new hash
    left_added inside low pushed = record {
      path_is = then_push old mid new (subproof_of digest first (part start k es) held)
          (subproof_of digest first (part start n es) held) (mth digest (part (start + k) (n - k) es)) low.path_is pushed
          (subproof_of-left digest es start n k two k_is within first held some inside);
      hash_is = low.hash_is ∙ ap (mth digest) (take-part start k first es inside ∙ sym begins);
    }

    -- the first entries are the left part and more
    pub right_added : first < n → k < first → (end left : List ℕ) →
        IsSubproofAdded digest (part (start + k) (n - k) es) (first - k) false old mid end →
        left ≡ mth digest (part start k es) → new ≡ mid ++ left ∷ [] → hash ≡ digest (1 ∷ left ++ end) →
        IsSubproofAdded digest (part start n es) first held old new hash
    right_added less past end left low left_is pushed joined =
        let end_is : end ≡ mth digest (part (start + k) (first - k) es) =
        low.hash_is ∙ ap (mth digest) (take-part (start + k) (n - k) (first - k) es (omega (arith, upto))) in
        record {
          path_is = then_push old mid new (subproof_of digest (first - k) (part (start + k) (n - k) es) false)
              (subproof_of digest first (part start n es) held) (mth digest (part start k es)) low.path_is
              (pushed ∙ ap (λ h. mid ++ h ∷ []) left_is)
              (subproof_of-right digest es start n k two k_is within first held less past);
          hash_is = joined ∙ ((λ i. digest (1 ∷ left_is i ++ end_is i))
              ∙ (sym (first_join digest es start n k first two k_is within past upto) ∙ ap (mth digest) (sym begins)));
        }
