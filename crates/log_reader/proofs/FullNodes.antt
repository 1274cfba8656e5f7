-- The nodes of a full row, joined one after another.
use Rattle.std.proofs.Common.{◌≡◌, ℕ, zero, suc, ◌+◌, ◌-◌, ◌*◌, ◌/◌, ◌%◌, ◌^◌, ◌<◌, ◌≤◌, List, [], ◌∷◌, ◌++◌, get_or, length, take, drop}
use Rattle.std.proofs.Common.{refl, sym, ap, ◌∙◌, inl, inr, arith, length-append, length-take}
use Rattle.std.proofs.Math.Nat.{pow-le-pow_right}
use Rattle.std.proofs.Math.Seq.{get_or-append_seam}
use Rattle.std.proofs.lemmas.Bool.{cases_lt}
use Rattle.std.proofs.lemmas.List.{get_or_append_left, take-append-le, take_all}
use Rattle.std.proofs.lemmas.Nat.{div-add-mod', div-mul-add, mul-le, pow-add, pow_pos}
use Rattle.tlog_shape.specs.Split.{IsPowerOfTwo, split_of}
use Rattle.tlog_shape.proofs.Splits.{power_le, split_of-unique}
use Rattle.tlog_hash.specs.Rows.{part}
use Rattle.tlog_hash.specs.Tree.{fold_of}
use Rattle.tlog_hash.proofs.Trees.{fold_of-join, fold_of-one}
use Rattle.tlog_proof.proofs.Parts.{drop-part, length-part, part-one, take-part}
use Rattle.log_reader.specs.FullRows.{HasNodes, node_place}

-- ---- the numbers of the nodes

-- the nodes of a height are twice those of the next height
twice : (height : ℕ) → height ≤ 8 → 2 ^ (9 - height) ≡ 2 * 2 ^ (8 - height)
twice height low =
    let next : 9 - height ≡ 1 + (8 - height) = omega (arith, low) in
    ap (λ e. 2 ^ e) next ∙ pow-add 2 1 (8 - height)

same_power : (i j : ℕ) → i ≡ j → 2 ^ i ≡ 2 ^ j
same_power i j is = ap (λ e. 2 ^ e) is

-- all nodes of a height have the 256 hashes
whole : (height : ℕ) → height ≤ 8 → 2 ^ (8 - height) * 2 ^ height ≡ 256
whole height low =
    let all : 8 - height + height ≡ 8 = omega (arith, low) in
    sym (pow-add 2 (8 - height) height) ∙ same_power (8 - height + height) 8 all

upto : (height : ℕ) → 2 ^ (8 - height) ≤ 256
upto height =
    let less : 8 - height ≤ 8 = omega arith in
    let two : 0 < 2 = omega arith in
    pow-le-pow_right two less

-- the hashes of a node are within the row
node_within : (height index : ℕ) → height ≤ 8 → index < 2 ^ (8 - height) → index * 2 ^ height + 2 ^ height ≤ 256
node_within height index low below =
    let m = 2 ^ height in
    let most : (index + 1) * m ≤ 2 ^ (8 - height) * m = mul-le (index + 1) m (2 ^ (8 - height)) m (omega (arith, below)) (omega arith) in
    let apart : (index + 1) * m ≡ index * m + m = omega arith in
    omega (arith, most, apart, whole height low)

module _ (digest : List ℕ → List ℕ) where
  -- ---- the fold of two halves

  halves : (m start : ℕ) (row : List (List ℕ)) → IsPowerOfTwo m → start + (m + m) ≤ length row →
      digest (1 ∷ fold_of digest (part start m row) ++ fold_of digest (part (start + m) m row))
      ≡ fold_of digest (part start (m + m) row)
  halves m start row power within =
      let both = part start (m + m) row in
      let long : length both ≡ m + m = length-part start (m + m) row within in
      let some : 0 < m = omega (arith, power.is, pow_pos power.exponent) in
      let at : m ≡ split_of (length both) =
      split_of-unique (length both) m (omega (arith, long, some)) power (omega (arith, long, some)) (omega (arith, long)) in
      let half : m + m - m ≡ m = omega arith in
      let left : part start m row ≡ take (split_of (length both)) both =
      sym (ap (λ k. take k both) (sym at) ∙ take-part start (m + m) m row (omega arith)) in
      let right : part (start + m) m row ≡ drop (split_of (length both)) both =
      sym (ap (λ k. drop k both) (sym at) ∙ (drop-part start (m + m) m row (omega arith) ∙ ap (λ k. part (start + m) k row) half)) in
      (λ i. digest (1 ∷ fold_of digest (left i) ++ fold_of digest (right i)))
      ∙ sym (fold_of-join digest both (omega (arith, long, some)))

  -- ---- the row alone

  first_node : (row : List (List ℕ)) → length row ≡ 256 → (height index : ℕ) → height ≤ 8 → index < 2 ^ (8 - height) →
      node_place height index < 256 →
      get_or row (node_place height index) [] ≡ fold_of digest (part (index * 2 ^ height) (2 ^ height) (take 256 row))
  first_node row long zero index low within before =
      let all : take 256 row ≡ row = take_all 256 row (omega (arith, long)) in
      let at : index * 1 ≡ index = omega arith in
      let place : node_place 0 index ≡ index = omega arith in
      ap (λ p. get_or row p []) place
      ∙ sym (ap (λ r. fold_of digest (part (index * 1) 1 r)) all
      ∙ (ap (λ s. fold_of digest (part s 1 row)) at
      ∙ (ap (fold_of digest) (part-one row index (omega (arith, long, within))) ∙ fold_of-one digest (get_or row index []))))
  first_node row long (suc h) index low within before =
      let fewer : 9 - suc h ≤ 8 = omega arith in
      let two : 0 < 2 = omega arith in
      let less : 2 ^ (9 - suc h) ≤ 256 = pow-le-pow_right two fewer in
      absurd (omega (arith, less, before))

  pub row_alone : (row : List (List ℕ)) → length row ≡ 256 → HasNodes digest 256 row
  row_alone row long = record { long = long; nodes = first_node row long }

  -- ---- one more node

  module _ (k : ℕ) (hashes : List (List ℕ)) (node : List ℕ) (fits : k < 255) (has : HasNodes digest (256 + k) hashes)
      (node_is : node ≡ digest (1 ∷ get_or hashes (2 * k) [] ++ get_or hashes (2 * k + 1) [])) where
    abbrev row : List (List ℕ)
    row = take 256 hashes

    row_long : length row ≡ 256
    row_long = omega (arith, length-take 256 hashes, has.long)

    same_row : take 256 (hashes ++ node ∷ []) ≡ row
    same_row = take-append-le 256 hashes (node ∷ []) (omega (arith, has.long))

    new_node : (height index : ℕ) → height ≤ 8 → index < 2 ^ (8 - height) → node_place height index ≡ 256 + k →
        node ≡ fold_of digest (part (index * 2 ^ height) (2 ^ height) row)
    new_node zero index low within at = absurd (omega (arith, within, at))
    new_node (suc h) index low within at =
        let m = 2 ^ h in
        let q = 2 ^ (8 - suc h) in
        let start = index * (m + m) in
        let high : 9 - suc h ≡ 8 - h = omega (arith, low) in
        let q_two : 2 ^ (9 - suc h) ≡ 2 * q = twice (suc h) low in
        let q_next : 2 ^ (8 - h) ≡ 2 * q = sym (same_power (9 - suc h) (8 - h) high) ∙ q_two in
        let q_four : 2 ^ (9 - h) ≡ 2 * (2 * q) = twice h (omega (arith, low)) ∙ ap (λ x. 2 * x) q_next in
        let small : 2 ^ (8 - h) ≤ 256 = upto h in
        let left_at : node_place h (2 * index) ≡ 2 * k = omega (arith, at, q_two, q_four, q_next, small) in
        let right_at : node_place h (2 * index + 1) ≡ 2 * k + 1 = omega (arith, at, q_two, q_four, q_next, small) in
        let l = has.nodes h (2 * index) (omega (arith, low)) (omega (arith, within, q_next)) (omega (arith, left_at, fits)) in
        let r = has.nodes h (2 * index + 1) (omega (arith, low)) (omega (arith, within, q_next)) (omega (arith, right_at, fits)) in
        let double : 2 ^ suc h ≡ m + m = omega arith in
        let whole_start : index * 2 ^ suc h ≡ start = ap (λ x. index * x) double in
        let left_start : 2 * index * m ≡ start = omega arith in
        let right_start : (2 * index + 1) * m ≡ start + m = omega arith in
        let inside : start + (m + m) ≤ length row =
        omega (arith, node_within (suc h) index low within, whole_start, double, row_long) in
        let left : get_or hashes (2 * k) [] ≡ fold_of digest (part start m row) =
        sym (ap (λ p. get_or hashes p []) left_at) ∙ (l ∙ ap (λ s. fold_of digest (part s m row)) left_start) in
        let right : get_or hashes (2 * k + 1) [] ≡ fold_of digest (part (start + m) m row) =
        sym (ap (λ p. get_or hashes p []) right_at) ∙ (r ∙ ap (λ s. fold_of digest (part s m row)) right_start) in
        node_is
        ∙ ((λ i. digest (1 ∷ left i ++ right i))
        ∙ (halves m start row (record { exponent = h; is = refl }) inside
        ∙ (λ i. fold_of digest (part (sym whole_start i) (sym double i) row))))

    next_node : (height index : ℕ) → height ≤ 8 → index < 2 ^ (8 - height) → node_place height index < 257 + k →
        get_or (hashes ++ node ∷ []) (node_place height index) []
        ≡ fold_of digest (part (index * 2 ^ height) (2 ^ height) (take 256 (hashes ++ node ∷ [])))
    next_node height index low within before =
        let place = node_place height index in
        let more = hashes ++ node ∷ [] in
        let back = ap (λ r. fold_of digest (part (index * 2 ^ height) (2 ^ height) r)) (sym same_row) in
        elim (cases_lt place (256 + k)) [
          | inl old ↦
              get_or_append_left hashes (node ∷ []) [] place (omega (arith, old, has.long))
              ∙ (has.nodes height index low within old ∙ back)
          | inr le ↦
              let at : place ≡ 256 + k = omega (arith, le, before) in
              let last : place ≡ length hashes = omega (arith, at, has.long) in
              ap (λ p. get_or more p []) last
              ∙ (get_or-append_seam hashes node [] [] ∙ (new_node height index low within at ∙ back))
        ]

    pub with_node : HasNodes digest (257 + k) (hashes ++ node ∷ [])
    with_node = record { long = omega (arith, length-append hashes (node ∷ []), has.long); nodes = next_node }

  -- ---- a node by its hashes in the row

  module _ (first count : ℕ) (power : IsPowerOfTwo count) (aligned : first % count ≡ 0) (fits : first + count ≤ 256) where
    abbrev e : ℕ
    e = power.exponent

    abbrev index : ℕ
    index = first / count

    some : 0 < count
    some = omega (arith, power.is, pow_pos e)

    low : e ≤ 8
    low = power_le e 8 (omega (arith, power.is, fits))

    first_is : index * count ≡ first
    first_is = omega (arith, div-add-mod' first count, aligned)

    count_all : 2 ^ (8 - e) * count ≡ 256
    count_all = ap (λ k. 2 ^ (8 - e) * k) power.is ∙ whole e low

    below : index < 2 ^ (8 - e)
    below = elim (cases_lt index (2 ^ (8 - e))) [
      | inl lt ↦ lt
      | inr le ↦
          let most : 2 ^ (8 - e) * count ≤ index * count = mul-le (2 ^ (8 - e)) count index count le (omega arith) in
          absurd (omega (arith, most, count_all, first_is, fits, some))
    ]

    quotient : 512 / count ≡ 2 ^ (9 - e)
    quotient =
        let q = 2 ^ (8 - e) in
        let two : 2 * q * count ≡ 2 * (q * count) = omega arith in
        let sum : 512 ≡ 2 * q * count + 0 = omega (arith, two, count_all) in
        ap (λ n. n / count) sum ∙ (div-mul-add (2 * q) count 0 some ∙ sym (twice e low))

    place_is : 512 - 512 / count + first / count ≡ node_place e index
    place_is = ap (λ q. 512 - q + index) quotient

    pub place_within : 512 - 512 / count + first / count < 511
    place_within = omega (arith, place_is, below, twice e low, pow_pos (8 - e), upto e)

    pub node_at : (hashes : List (List ℕ)) → HasNodes digest 511 hashes →
        get_or hashes (512 - 512 / count + first / count) [] ≡ fold_of digest (take count (drop first (take 256 hashes)))
    node_at hashes has =
        let start : index * 2 ^ e ≡ first = sym (ap (λ c. index * c) power.is) ∙ first_is in
        ap (λ p. get_or hashes p []) place_is
        ∙ (has.nodes e index low below (omega (arith, place_is, place_within))
        ∙ (λ i. fold_of digest (part (start i) (sym power.is i) (take 256 hashes))))
