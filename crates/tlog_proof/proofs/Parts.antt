-- Inclusion paths within a range of a list.
use Rattle.std.proofs.Common.{Bool, false, ◌≡◌, ℕ, ◌+◌, ◌-◌, ◌<◌, ◌≤◌, List, [], ◌∷◌, ◌++◌, length, get_or, take, drop}
use Rattle.std.proofs.Common.{sym, ap, ◌∙◌, arith, length-take, length-drop, append_assoc}
use Rattle.std.proofs.lemmas.List.{take-take, drop-take, drop-drop, drop_more, append-nil}
use Rattle.std.specs.Prelude.{if◌then◌else◌}
use Rattle.tlog_shape.specs.Split.{split_of}
use Rattle.tlog_shape.proofs.Splits.{split_of-below}
use Rattle.tlog_hash.specs.Tree.{tree_of, mth}
use Rattle.tlog_hash.specs.Rows.{part}
use Rattle.tlog_hash.proofs.Trees.{tree_of-one, mth-one}
use Rattle.tlog_proof.specs.Inclusion.{path_in, path_of}
use Rattle.tlog_proof.specs.Consistency.{proof_in, subproof_of}
use Rattle.tlog_proof.proofs.Paths.{left_of, right_of}
use Rattle.tlog_proof.proofs.Subproofs.{all_of, left_of as sub_left_of, right_of as sub_right_of}

pub length-part : {A : Type 0} (start len : ℕ) (es : List A) → start + len ≤ length es →
    length (part start len es) ≡ len
length-part start len es within = omega (arith, length-take len (drop start es), length-drop start es)

pub take-part : {A : Type 0} (start len k : ℕ) (es : List A) → k ≤ len → take k (part start len es) ≡ part start k es
take-part start len k es le = take-take k len (drop start es) le

pub drop-part : {A : Type 0} (start len k : ℕ) (es : List A) → k ≤ len →
    drop k (part start len es) ≡ part (start + k) (len - k) es
drop-part start len k es le =
    let whole : k + (len - k) ≡ len = omega arith in
    ap (λ n. drop k (take n (drop start es))) (sym whole) ∙ drop-take k (len - k) (drop start es) ∙
    ap (take (len - k)) (drop-drop k start es)

-- a range of one entry
pub part-one : (es : List (List ℕ)) (i : ℕ) → i < length es → part i 1 es ≡ get_or es i [] ∷ []
part-one es i inside = ap (take 1) (drop_more es i [] inside)

module _ (digest : List ℕ → List ℕ) where
  -- the hash of a range of one entry is its leaf hash
  pub mth-part_one : (es : List (List ℕ)) (i : ℕ) → i < length es →
      mth digest (part i 1 es) ≡ digest (0 ∷ get_or es i [])
  mth-part_one es i inside = ap (mth digest) (part-one es i inside) ∙ mth-one digest (get_or es i [])

  pub path_of-one : (es : List (List ℕ)) (start len index : ℕ) → len ≡ 1 → start + len ≤ length es →
      path_of digest index (part start len es) ≡ []
  unfolding path_of
  path_of-one es start len index one within =
      ap (λ n. path_in digest index (tree_of (part start n es))) one ∙
      ap (λ xs. path_in digest index (tree_of xs)) (part-one es start (omega arith)) ∙
      ap (path_in digest index) (tree_of-one (get_or es start []))

  module _ (es : List (List ℕ)) (start len k : ℕ) (two : 2 ≤ len) (k_is : k ≡ split_of len)
      (within : start + len ≤ length es) where
    abbrev whole_part : List (List ℕ)
    whole_part = part start len es

    at_k : k ≡ split_of (length whole_part)
    at_k = k_is ∙ ap split_of (sym (length-part start len es within))

    below : k < len
    below = let b = split_of-below len two in omega (arith, b, k_is)

    left_is : take (split_of (length whole_part)) whole_part ≡ part start k es
    left_is = ap (λ n. take n whole_part) (sym at_k) ∙ take-part start len k es (omega (arith, below))

    right_is : drop (split_of (length whole_part)) whole_part ≡ part (start + k) (len - k) es
    right_is = ap (λ n. drop n whole_part) (sym at_k) ∙ drop-part start len k es (omega (arith, below))

    pub path_of-left : (index : ℕ) → index < k →
        path_of digest index (part start len es)
        ≡ path_of digest index (part start k es) ++ mth digest (part (start + k) (len - k) es) ∷ []
    unfolding path_of
    path_of-left index inside =
        left_of digest index whole_part (omega (arith, length-part start len es within)) (omega (arith, at_k))
        ∙ (λ i. path_in digest index (tree_of (left_is i)) ++ mth digest (right_is i) ∷ [])

    pub path_of-right : (index : ℕ) → k ≤ index →
        path_of digest index (part start len es)
        ≡ path_of digest (index - k) (part (start + k) (len - k) es) ++ mth digest (part start k es) ∷ []
    unfolding path_of
    path_of-right index past =
        right_of digest index whole_part (omega (arith, length-part start len es within)) (omega (arith, at_k))
        ∙ (λ i. path_in digest (index - sym at_k i) (tree_of (right_is i)) ++ mth digest (left_is i) ∷ [])

    pub subproof_of-left : (m : ℕ) (flag : Bool) → 0 < m → m ≤ k →
        subproof_of digest m (part start len es) flag
        ≡ subproof_of digest m (part start k es) flag ++ mth digest (part (start + k) (len - k) es) ∷ []
    unfolding subproof_of
    subproof_of-left m flag some inside =
        sub_left_of digest m whole_part flag some (omega (arith, length-part start len es within, below))
        (omega (arith, at_k))
        ∙ (λ i. proof_in digest m flag (tree_of (left_is i)) ++ mth digest (right_is i) ∷ [])

    pub subproof_of-right : (m : ℕ) (flag : Bool) → m < len → k < m →
        subproof_of digest m (part start len es) flag
        ≡ subproof_of digest (m - k) (part (start + k) (len - k) es) false ++ mth digest (part start k es) ∷ []
    unfolding subproof_of
    subproof_of-right m flag less past =
        sub_right_of digest m whole_part flag (omega (arith, length-part start len es within)) (omega (arith, at_k))
        ∙ (λ i. proof_in digest (m - sym at_k i) false (tree_of (right_is i)) ++ mth digest (left_is i) ∷ [])

  pub subproof_of-all : (es : List (List ℕ)) (start len m : ℕ) (flag : Bool) → m ≡ len → 0 < m →
      start + len ≤ length es →
      subproof_of digest m (part start len es) flag ≡ (if flag then [] else mth digest (part start len es) ∷ [])
  unfolding subproof_of
  subproof_of-all es start len m flag is some within =
      let size : length (part start len es) ≡ len = length-part start len es within in
      ap (λ n. proof_in digest n flag (tree_of (part start len es))) (is ∙ sym size) ∙
      all_of digest (part start len es) flag (omega arith)

-- one more hash is appended
pub then_push : (old mid new path more : List (List ℕ)) (h : List ℕ) → mid ≡ old ++ path → new ≡ mid ++ h ∷ [] →
    more ≡ path ++ h ∷ [] → new ≡ old ++ more
then_push old mid new path more h added pushed is =
    pushed ∙ ap (λ xs. xs ++ h ∷ []) added ∙ append_assoc old path (h ∷ []) ∙ ap (λ xs. old ++ xs) (sym is)

-- nothing was appended
pub none_added : (old more : List (List ℕ)) → more ≡ [] → old ≡ old ++ more
none_added old more is = sym (ap (λ xs. old ++ xs) is ∙ append-nil old)
