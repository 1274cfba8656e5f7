-- The tree of a list that is cut into blocks.
use Rattle.std.proofs.Common.{subst, ◌≡◌, ℕ, zero, suc, ◌+◌, ◌-◌, ◌*◌, ◌^◌, ◌<◌, ◌≤◌, List, [], ◌∷◌, ◌++◌, length, take}
use Rattle.std.proofs.Common.{drop, map, sym, ap, ◌∙◌, arith, length-take, length-drop, length-append, take-append-drop}
use Rattle.std.proofs.lemmas.List.{length-map, map-append, append-nil}
use Rattle.std.proofs.lemmas.List.Concat.{flat_map-append, flat_map-cons}
use Rattle.std.proofs.lemmas.Nat.{pow_pos, pow-add, mul-le}
use Rattle.tlog_shape.specs.Split.{split_of, IsPowerOfTwo}
use Rattle.tlog_shape.proofs.Splits.{split_of-below, split_of-positive, split_of-unique, split_of-power, split_of-half}
use Rattle.tlog_hash.specs.Tree.{Join, tree_of}
use Rattle.tlog_hash.proofs.Trees.{tree_of-one, tree_of-append, induction}
use Rattle.tlog_hash.specs.Blocks.{graft, IsCut, joined_up}

-- the total fills all blocks but the last, and the last one at least in part
pub record IsBetween (b blocks total : ℕ) : Type 0 where
  pub above : blocks * b < total + b
  pub upto : total ≤ blocks * b

-- the list bs has k full blocks of b items each
pub record IsFull {A : Type 0} (b k : ℕ) (bs : List (List A)) : Type 0 where
  pub cut : IsCut b bs
  pub total : length (joined_up bs) ≡ k * b

module _ {A : Type 0} (b : ℕ) (some : 0 < b) where
  length_joined-cons : (x : List A) (bs : List (List A)) →
      length (joined_up (x ∷ bs)) ≡ length x + length (joined_up bs)
  length_joined-cons x bs = ap length (flat_map-cons (λ y. y) x bs) ∙ length-append x (joined_up bs)

  pub cut_length : (bs : List (List A)) → IsCut b bs → IsBetween b (length bs) (length (joined_up bs))
  cut_length [] c = absurd c
  cut_length (x ∷ []) c =
      record { above = omega (arith, c.0, length_joined-cons x []); upto = omega (arith, c.1, length_joined-cons x []) }
  cut_length (x ∷ y ∷ rest) c =
      let h = cut_length (y ∷ rest) c.1 in
      let e = length_joined-cons x (y ∷ rest) in
      let at : length x ≡ b = c.0 in
      record { above = omega (arith, h.above, e, at); upto = omega (arith, h.upto, e, at) }

  -- the first k blocks of a cut are full, if they are not all of its blocks
  pub cut_left : (k : ℕ) (bs : List (List A)) → 0 < k → k < length bs → IsCut b bs → IsFull b k (take k bs)
  cut_left k [] p q c = absurd c
  cut_left k (x ∷ []) p q c = absurd (omega arith)
  cut_left zero (x ∷ y ∷ rest) p q c = absurd (omega arith)
  cut_left (suc zero) (x ∷ y ∷ rest) p q c =
      record { cut = (omega (arith, c.0), omega (arith, c.0)); total = omega (arith, c.0, length_joined-cons x []) }
  cut_left (suc (suc k)) (x ∷ y ∷ rest) p q c =
      let h = cut_left (suc k) (y ∷ rest) (omega arith) (omega arith) c.1 in
      record { cut = (c.0, h.cut); total = omega (arith, c.0, h.total, length_joined-cons x (take (suc k) (y ∷ rest))) }

  pub cut_right : (k : ℕ) (bs : List (List A)) → k < length bs → IsCut b bs → IsCut b (drop k bs)
  cut_right zero bs q c = c
  cut_right (suc k) [] q c = absurd c
  cut_right (suc k) (x ∷ []) q c = absurd (omega arith)
  cut_right (suc k) (x ∷ y ∷ rest) q c = cut_right k (y ∷ rest) (omega arith) c.1

pub power_times : (j k : ℕ) → IsPowerOfTwo k → IsPowerOfTwo (k * 2 ^ j)
power_times j k h = record { exponent = h.exponent + j; is = ap (λ m. m * 2 ^ j) h.is ∙ sym (pow-add 2 h.exponent j) }

-- a list that is cut into blocks of a power of two is split between two blocks
pub split_of-blocks : (j m n : ℕ) → 2 ≤ m → m * 2 ^ j < n + 2 ^ j → n ≤ m * 2 ^ j → split_of m * 2 ^ j ≡ split_of n
split_of-blocks j m n two above upto =
    let k = split_of m in
    let some : 0 < 2 ^ j = pow_pos j in
    let below : k + 1 ≤ m = omega (arith, split_of-below m two) in
    let half : m ≤ k + k = omega (arith, split_of-half m two) in
    let one : 1 ≤ k = split_of-positive m two in
    let below' : (k + 1) * 2 ^ j ≤ m * 2 ^ j = mul-le _ _ _ _ below (omega arith) in
    let half' : m * 2 ^ j ≤ (k + k) * 2 ^ j = mul-le _ _ _ _ half (omega arith) in
    let one' : 1 * 2 ^ j ≤ k * 2 ^ j = mul-le _ _ _ _ one (omega arith) in
    split_of-unique n (k * 2 ^ j) (omega arith) (power_times j k (split_of-power m two)) (omega arith) (omega arith)

-- the two parts of a list of blocks at the split of its tree
pub record IsSplit {A : Type 0} (b : ℕ) (xs ys : List (List A)) : Type 0 where
  pub some_left : 0 < length xs
  pub some_right : 0 < length ys
  pub left : IsCut b xs
  pub right : IsCut b ys
  pub total : length (joined_up xs) ≡ length xs * b
  pub some : 0 < length (joined_up ys)
  pub at : length xs ≡ split_of (length xs + length ys)
  pub tree_is : tree_of (joined_up (xs ++ ys)) ≡ Join (tree_of (joined_up xs)) (tree_of (joined_up ys))

module _ {A : Type 0} (j : ℕ) where
  split_is : (bs : List (List A)) → 2 ≤ length bs → IsCut (2 ^ j) bs →
      IsSplit (2 ^ j) (take (split_of (length bs)) bs) (drop (split_of (length bs)) bs)
  split_is bs two c =
      let b = 2 ^ j in
      let some : 0 < b = pow_pos j in
      let m = length bs in
      let k = split_of m in
      let below : k < m = split_of-below m two in
      let positive : 0 < k = split_of-positive m two in
      let xs = take k bs in
      let ys = drop k bs in
      let left = cut_left b some k bs positive below c in
      let right = cut_right b some k bs below c in
      let total = cut_length b some bs c in
      let len_x : length xs ≡ k = length-take k bs ∙ omega arith in
      let len_y : length ys ≡ m - k = length-drop k bs in
      let whole : joined_up bs ≡ joined_up xs ++ joined_up ys =
      ap joined_up (sym (take-append-drop k bs)) ∙ flat_map-append (λ y. y) xs ys in
      let sum : length (joined_up xs) + length (joined_up ys) ≡ length (joined_up bs) =
      sym (ap length whole ∙ length-append (joined_up xs) (joined_up ys)) in
      let at : k * b ≡ split_of (length (joined_up bs)) =
      split_of-blocks j m (length (joined_up bs)) two total.above total.upto in
      let at' : length (joined_up xs) ≡ split_of (length (joined_up xs) + length (joined_up ys)) =
      left.total ∙ at ∙ ap split_of (sym sum) in
      let big : 1 * b ≤ k * b = mul-le _ _ _ _ positive (omega arith) in
      let more_right = cut_length b some ys right in
      let big_right : 1 * b ≤ length ys * b = mul-le 1 b (length ys) b (omega arith) (omega arith) in
      let two' : 2 ≤ length (joined_up xs) + length (joined_up ys) =
      omega (arith, left.total, more_right.above, big, big_right) in
      record {
        some_left = omega arith;
        some_right = omega arith;
        left = left.cut;
        right = right;
        total = left.total ∙ ap (λ n. n * b) (sym len_x);
        some = omega (arith, more_right.above, big_right);
        at = len_x ∙ ap split_of (omega arith);
        tree_is = ap tree_of (flat_map-append (λ y. y) xs ys) ∙ tree_of-append (joined_up xs) (joined_up ys) two' at';
      }

  -- a property of one block, and of two parts together, holds for all lists of blocks
  pub cut_induction : (P : List (List A) → Type 0) → ((x : List A) → 0 < length x → length x ≤ 2 ^ j → P (x ∷ [])) →
      ((xs ys : List (List A)) → IsSplit (2 ^ j) xs ys → P xs → P ys → P (xs ++ ys)) → (bs : List (List A)) →
      IsCut (2 ^ j) bs → P bs
  cut_induction P one join bs c =
      induction (λ bs. IsCut (2 ^ j) bs → P bs) (λ c. absurd c) (λ x c. one x c.0 c.1)
      (λ bs two l r c. let h =
      split_is bs two c in subst P (take-append-drop (split_of (length bs)) bs)
      (join (take (split_of (length bs)) bs) (drop (split_of (length bs)) bs) h (l h.left) (r h.right))) bs c

  pub tree_of-parts : {B : Type 0} (f : List A → B) (xs ys : List (List A)) → IsSplit (2 ^ j) xs ys →
      tree_of (map f (xs ++ ys)) ≡ Join (tree_of (map f xs)) (tree_of (map f ys))
  tree_of-parts f xs ys h =
      let len_x = length-map xs f in
      let len_y = length-map ys f in
      ap tree_of (map-append f xs ys) ∙
      tree_of-append (map f xs) (map f ys) (omega (arith, len_x, len_y, h.some_left, h.some_right))
      (rw (len_x, len_y) h.at)

  -- the tree of a list is the tree of its blocks, with each block replaced by its own tree
  pub tree_of-blocks : (bs : List (List A)) → IsCut (2 ^ j) bs → tree_of (joined_up bs) ≡ graft tree_of (tree_of bs)
  tree_of-blocks bs c =
      cut_induction (λ bs. tree_of (joined_up bs) ≡ graft tree_of (tree_of bs))
      (λ x some upto. ap tree_of (flat_map-cons (λ y. y) x [] ∙ append-nil x) ∙
      sym (ap (graft tree_of) (tree_of-one x)))
      (λ xs ys h l r. h.tree_is ∙ (λ i. Join (l i) (r i)) ∙
      sym (ap (graft tree_of) (tree_of-append xs ys (omega (arith, h.some_left, h.some_right)) h.at)))
      bs c
