-- The levels and indices of the hashes of a tree's nodes.
use Rattle.std.proofs.Common.{◌≡◌, ℕ, zero, suc, ◌+◌, ◌-◌, ◌*◌, ◌/◌, ◌%◌, ◌^◌, ◌<◌, ◌≤◌, inl, inr, refl, sym, ap, subst, ◌∙◌, arith}
use Rattle.std.proofs.Math.Nat.{div-mul-le_self, lt-div-mul-add, mul-add-mod_self_right}
use Rattle.std.proofs.lemmas.Bool.{cases_lt}
use Rattle.std.proofs.lemmas.Nat.{div-add-mod', div-mul-add, div_below, le-div, mod-mul-add, mul-le, pow-add, pow_pos}
use Rattle.tlog_shape.specs.Edge.{IsTop, edge_index_of, width_of}
use Rattle.tlog_shape.specs.Split.{IsPowerOfTwo, split_of}
use Rattle.tlog_shape.proofs.Edges.{range_has, rest_positive}
use Rattle.tlog_shape.proofs.Levels.{level_next, level_positive, level_power}
use Rattle.tlog_shape.proofs.Splits.{perfect_half, power_le, split_of-below, split_of-half, split_of-power}
use Rattle.tlog_tiles.proofs.EdgeLemmas.{hashes_of}
use Rattle.log_reader.specs.Holding.{row_width}
use Rattle.log_reader.specs.Nodes.{IsNodeRange}

-- ---- powers of two

-- the whole is a multiple of the size
pub record IsMultiple (size whole : ℕ) : Type 0 where
  pub times : ℕ
  pub is : whole ≡ times * size

pub power_positive : (k : ℕ) → IsPowerOfTwo k → 0 < k
power_positive k p = omega (arith, p.is, pow_pos p.exponent)

power_multiple : (low high : ℕ) → IsPowerOfTwo low → IsPowerOfTwo high → low ≤ high → IsMultiple low high
power_multiple low high p q le =
    let i = p.exponent in
    let j = q.exponent in
    let upto : i ≤ j = power_le i j (omega (arith, le, p.is, q.is, pow_pos j)) in
    let gap : j ≡ (j - i) + i = omega (arith, upto) in
    record {
      times = 2 ^ (j - i);
      is = q.is ∙ (ap (λ e. 2 ^ e) gap ∙ (pow-add 2 (j - i) i ∙ ap (λ k. 2 ^ (j - i) * k) (sym p.is)));
    }

-- a number is known by a multiple of it
same_times : (size x y : ℕ) → 0 < size → x * size ≡ y * size → x ≡ y
same_times size x y some same =
    let sum : (z : ℕ) → z * size ≡ z * size + 0 = λ z. omega arith in
    let whole : (z : ℕ) → z * size / size ≡ z = λ z. ap (λ n. n / size) (sum z) ∙ div-mul-add z size 0 some in
    sym (whole x) ∙ (ap (λ n. n / size) same ∙ whole y)

quotient_power : (low high times : ℕ) → IsPowerOfTwo low → IsPowerOfTwo high → low ≤ high → times * low ≡ high →
    IsPowerOfTwo times
quotient_power low high times p q le is =
    let i = p.exponent in
    let j = q.exponent in
    let upto : i ≤ j = power_le i j (omega (arith, le, p.is, q.is, pow_pos j)) in
    let gap : j ≡ (j - i) + i = omega (arith, upto) in
    record {
      exponent = j - i;
      is = same_times low times (2 ^ (j - i)) (omega (arith, p.is, pow_pos i))
          (is ∙ (q.is ∙ (ap (λ e. 2 ^ e) gap ∙ (pow-add 2 (j - i) i ∙ ap (λ k. 2 ^ (j - i) * k) (sym p.is)))));
    }

pub multiple_aligned : (size whole : ℕ) → 0 < size → IsMultiple size whole → whole % size ≡ 0
multiple_aligned size whole some m =
    let sum : m.times * size ≡ m.times * size + 0 = omega arith in
    ap (λ n. n % size) (m.is ∙ sum) ∙ mod-mul-add m.times size 0 some

pub aligned_multiple : (size start : ℕ) → start % size ≡ 0 → IsMultiple size start
aligned_multiple size start aligned = record { times = start / size; is = omega (arith, div-add-mod' start size, aligned) }

-- a multiple of a power of two is a multiple of each smaller power of two
pub aligned_smaller : (low high start : ℕ) → IsPowerOfTwo low → IsPowerOfTwo high → low ≤ high → start % high ≡ 0 →
    start % low ≡ 0
aligned_smaller low high start p q le aligned =
    let a = aligned_multiple high start aligned in
    let b = power_multiple low high p q le in
    multiple_aligned low start (power_positive low p) (record {
      times = a.times * b.times;
      is = a.is ∙ (ap (λ k. a.times * k) b.is ∙ omega arith);
    })

pub block_power : (level : ℕ) → IsPowerOfTwo (256 ^ level)
block_power level = record { exponent = 8 * level; is = level_power level }

-- ---- nodes of a tree

pub whole_node : (n : ℕ) → 0 < n → n < 2 ^ 64 → IsNodeRange n 0 n
whole_node n some small = record {
  block = 2 ^ 64;
  power = record { exponent = 64; is = refl };
  aligned = omega arith;
  upto = omega (arith, small);
  some = some;
  within = omega arith;
  kind = inr (omega arith);
}

module _ (n start len k : ℕ) (node : IsNodeRange n start len) (two : 2 ≤ len) (k_is : k ≡ split_of len) where
  power : IsPowerOfTwo k
  power = subst IsPowerOfTwo (sym k_is) (split_of-power len two)

  below : k < len
  below = omega (arith, k_is, split_of-below len two)

  half : len ≤ 2 * k
  half = omega (arith, k_is, split_of-half len two)

  start_aligned : start % k ≡ 0
  start_aligned = aligned_smaller k node.block start power node.power (omega (arith, below, node.upto)) node.aligned

  pub left_node : IsNodeRange n start k
  left_node = record {
    block = k;
    power = power;
    aligned = start_aligned;
    upto = omega arith;
    some = power_positive k power;
    within = omega (arith, below, node.within);
    kind = inl power;
  }

  pub right_node : IsNodeRange n (start + k) (len - k)
  right_node =
      let m = aligned_multiple k start start_aligned in
      record {
        block = k;
        power = power;
        aligned = multiple_aligned k (start + k) (power_positive k power)
            (record { times = m.times + 1; is = omega (arith, m.is) });
        upto = omega (arith, half);
        some = omega (arith, below);
        within = omega (arith, below, node.within);
        kind = elim node.kind [
          | inl whole ↦ inl (subst IsPowerOfTwo (omega (arith, perfect_half len two whole, k_is)) power)
          | inr end ↦ inr (omega (arith, below, end))
        ];
      }

-- ---- the greatest level of a node

module _ (len level : ℕ) (some : 0 < len) (small : len < 2 ^ 64) (top : IsTop len level) where
  none_above : (j l : ℕ) → l + j ≡ 8 → level < l → len / 256 ^ l ≡ 0
  none_above zero l at above =
      let same : 8 ≡ l = omega (arith, at) in
      let eight : len / 256 ^ 8 ≡ 0 = omega (arith, small) in
      subst (λ k. len / 256 ^ k ≡ 0) same eight
  none_above (suc j) l at above =
      let up : len / 256 ^ (l + 1) ≡ 0 = none_above j (l + 1) (omega (arith, at)) (omega (arith, above)) in
      let whole = hashes_of len l in
      elim (cases_lt 0 (width_of len l)) [
        | inl wide ↦ absurd (omega (arith, top.greatest l (omega (arith, at)) wide, above))
        | inr none ↦ omega (arith, whole, up, none)
      ]

  only_tile : len / 256 ^ (level + 1) ≡ 0
  only_tile = none_above (7 - level) (level + 1) (omega (arith, top.within)) (omega arith)

  pub top_above : len < 256 ^ (level + 1)
  top_above =
      let c = 256 ^ (level + 1) in
      let after : len < len / c * c + c = lt-div-mul-add (level_positive (level + 1)) in
      let none : len / c * c ≡ 0 = ap (λ q. q * c) only_tile ∙ omega arith in
      omega (arith, after, none)

  hashes : len / 256 ^ level ≡ width_of len level
  hashes = omega (arith, hashes_of len level, only_tile)

  top_within : 256 ^ level ≤ len
  top_within = rest_positive len (256 ^ level) (level_positive level) (omega (arith, hashes, top.some some))

-- ---- a node of a power of two of entries, in the row of its tile

module _ (n start len level : ℕ) (small : len < 2 ^ 64) (within : start + len ≤ n) (power : IsPowerOfTwo len)
    (aligned : start % len ≡ 0) (top : IsTop len level) where
  abbrev b : ℕ
  b = 256 ^ level

  abbrev c : ℕ
  c = 256 ^ (level + 1)

  abbrev index : ℕ
  index = edge_index_of start level

  abbrev first : ℕ
  first = width_of start level

  abbrev count : ℕ
  count = width_of len level

  some : 0 < len
  some = power_positive len power

  upto : b ≤ len
  upto = top_within len level some small top

  pub count_some : 0 < count
  count_some = top.some some

  pub count_is : count * b ≡ len
  count_is =
      let even : len % b ≡ 0 =
      multiple_aligned b len (level_positive level) (power_multiple b len (block_power level) power upto) in
      let whole : len / b * b + len % b ≡ len = div-add-mod' len b in
      ap (λ k. k * b) (sym (hashes len level some small top)) ∙ omega (arith, whole, even)

  pub start_is : (256 * index + first) * b ≡ start
  start_is =
      let even : start % b ≡ 0 = aligned_smaller b len start (block_power level) power upto aligned in
      let whole : start / b * b + start % b ≡ start = div-add-mod' start b in
      ap (λ k. k * b) (hashes_of start level) ∙ omega (arith, whole, even)

  sum : (256 * index + (first + count)) * b ≡ start + len
  sum =
      let apart : (256 * index + (first + count)) * b ≡ (256 * index + first) * b + count * b = omega arith in
      omega (arith, apart, start_is, count_is)

  in_tile : start + len ≤ (index + 1) * c
  in_tile =
      let more : (index + 1) * c ≡ index * c + c = omega arith in
      elim (cases_lt 1 len) [
        | inl several ↦ (range_has start len level index (omega (arith, several))
            (omega (arith, top_above len level some small top)) refl power aligned).to
        | inr one ↦
            let after : start < start / c * c + c = lt-div-mul-add (level_positive (level + 1)) in
            omega (arith, one, more, after)
      ]

  pub fits : first + count ≤ row_width n level index
  fits =
      let reached : 256 * index + (first + count) ≤ n / b =
      le-div (256 * index + (first + count)) n b (level_positive level) (omega (arith, sum, within)) in
      let whole : (index + 1) * c ≡ (256 * index + 256) * b = ap (λ k. (index + 1) * k) (level_next level) ∙ omega arith in
      let narrow : first + count ≤ 256 = elim (cases_lt 256 (first + count)) [
        | inr le ↦ le
        | inl over ↦
            let most : (256 * index + 257) * b ≤ (256 * index + (first + count)) * b =
            mul-le (256 * index + 257) b (256 * index + (first + count)) b (omega (arith, over)) (omega arith) in
            let more : (256 * index + 257) * b ≡ (256 * index + 256) * b + b = omega arith in
            absurd (omega (arith, most, more, sum, in_tile, whole, level_positive level))
      ] in
      omega (arith, reached, narrow)

-- the same node by the hashes of its tile's row, whatever the size of the tree
module _ (start len level : ℕ) (small : len < 2 ^ 64) (power : IsPowerOfTwo len) (aligned : start % len ≡ 0)
    (top : IsTop len level) where
  abbrev end : ℕ
  end = start + len

  within_end : start + len ≤ end
  within_end = omega arith

  abbrev one : ℕ
  one = 256 ^ level

  abbrev wide : ℕ
  wide = width_of len level

  some_wide : 0 < wide
  some_wide = count_some end start len level small within_end power aligned top

  whole_wide : wide * one ≡ len
  whole_wide = count_is end start len level small within_end power aligned top

  pub count_power : IsPowerOfTwo wide
  count_power =
      quotient_power one len wide (block_power level) power (top_within len level (power_positive len power) small top) whole_wide

  pub row_fits : width_of start level + wide ≤ 256
  row_fits = omega (arith, fits end start len level small within_end power aligned top)

  pub first_aligned : width_of start level % wide ≡ 0
  first_aligned =
      let first = width_of start level in
      let index = edge_index_of start level in
      let nodes = aligned_multiple len start aligned in
      let row = power_multiple wide 256 count_power (record { exponent = 8; is = refl }) (omega (arith, row_fits)) in
      let apart : nodes.times * (wide * one) ≡ nodes.times * wide * one = omega arith in
      let all : 256 * index + first ≡ nodes.times * wide =
      same_times one (256 * index + first) (nodes.times * wide) (level_positive level)
      (start_is end start len level small within_end power aligned top ∙ (nodes.is ∙ (ap (λ k. nodes.times * k) (sym whole_wide) ∙ apart))) in
      let before : index * row.times * wide ≡ index * (row.times * wide) = omega arith in
      let before_is : 256 * index ≡ index * row.times * wide = omega (arith, before, ap (λ k. index * k) row.is) in
      sym (mul-add-mod_self_right (index * row.times) wide first)
      ∙ (ap (λ k. k % wide) (omega (arith, before_is, all)) ∙ multiple_aligned wide (nodes.times * wide) some_wide
      (record { times = nodes.times; is = refl }))

-- a node whose number of entries is a power of two begins at a multiple of this number
pub perfect_aligned : (n start len : ℕ) → IsNodeRange n start len → IsPowerOfTwo len → start % len ≡ 0
perfect_aligned n start len node power = aligned_smaller len node.block start power node.power node.upto node.aligned

-- ---- the node of the last entries, in the rows of the edge

module _ (n start len level : ℕ) (node : IsNodeRange n start len) (small : len < 2 ^ 64) (other : IsPowerOfTwo len → ⊥)
    (top : IsTop len level) where
  pub ends : start + len ≡ n
  ends = elim node.kind [
    | inl power ↦ absurd (other power)
    | inr end ↦ end
  ]

  less : len < node.block
  less = elim (cases_lt len node.block) [
    | inl lt ↦ lt
    | inr le ↦ absurd (other (subst IsPowerOfTwo (omega (arith, le, node.upto)) node.power))
  ]

  same_tile : start / 256 ^ (level + 1) ≡ edge_index_of n level
  same_tile =
      let c = 256 ^ (level + 1) in
      let block = node.block in
      let index = start / c in
      let low : len < c = top_above len level node.some small top in
      let some : 0 < c = level_positive (level + 1) in
      elim (cases_lt c block) [
        | inr le ↦
            let tile = range_has start block level index (omega (arith, node.some, less)) le refl node.power node.aligned in
            let below : n / c < index + 1 = div_below n c (index + 1) some (omega (arith, tile.to, less, ends)) in
            let above : index ≤ n / c = le-div index n c some (omega (arith, tile.from, node.within)) in
            omega (arith, below, above)
        | inl lt ↦
            let even : start % c ≡ 0 =
            aligned_smaller c block start (block_power (level + 1)) node.power (omega (arith, lt)) node.aligned in
            let whole : index * c + start % c ≡ start = div-add-mod' start c in
            let sum : n ≡ index * c + len = omega (arith, even, whole, ends) in
            sym (ap (λ k. k / c) sum ∙ div-mul-add index c len low)
      ]

  pub end_start : (256 * edge_index_of n level + width_of start level) * 256 ^ level ≡ start
  end_start =
      let b = 256 ^ level in
      let upto : b ≤ node.block = omega (arith, top_within len level node.some small top, node.upto) in
      let even : start % b ≡ 0 = aligned_smaller b node.block start (block_power level) node.power upto node.aligned in
      let whole : start / b * b + start % b ≡ start = div-add-mod' start b in
      ap (λ k. (256 * k + width_of start level) * b) (sym same_tile)
      ∙ (ap (λ k. k * b) (hashes_of start level) ∙ omega (arith, whole, even))

  pub end_first : width_of start level ≤ width_of n level
  end_first =
      let b = 256 ^ level in
      let fewer : start / b ≤ n / b =
      le-div (start / b) n b (level_positive level) (omega (arith, div-mul-le_self start b, node.within)) in
      omega (arith, fewer, hashes_of start level, hashes_of n level, same_tile)
