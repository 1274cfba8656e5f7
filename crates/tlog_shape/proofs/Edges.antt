-- The tiles of a tree.
use Rattle.std.proofs.Common.{◌≡◌, inl, inr, ℕ, ◌+◌, ◌-◌, ◌*◌, ◌/◌, ◌%◌, ◌^◌, ◌<◌, ◌≤◌, refl, sym, ap, ◌∙◌, arith}
use Rattle.std.proofs.Math.Nat.{div-mul-le_self, lt-div-mul-add, div-eq_of_lt, div-one, mod-eq_of_lt}
use Rattle.std.proofs.lemmas.Bool.{cases_lt}
use Rattle.std.proofs.lemmas.Nat.{le-div, mul-le, pow-add, pow_pos, div-add-mod'}
use Rattle.tlog_shape.specs.Split.{IsPowerOfTwo}
use Rattle.tlog_shape.specs.Edge.{width_of, IsTop, IsTileOfNode, RangeHasNode}
use Rattle.tlog_shape.proofs.Levels.{level_power, level_positive, level_mono}
use Rattle.tlog_shape.proofs.Splits.{power_le}

-- a block with an index below the count of whole blocks ends within n, and the reverse
pub fits-index : (index n size : ℕ) → 0 < size → (index + 1) * size ≤ n → index < n / size
fits-index index n size some fits = omega (arith, le-div (index + 1) n size some fits)

pub index-fits : (index n size : ℕ) → index < n / size → (index + 1) * size ≤ n
index-fits index n size below =
    let le : (index + 1) * size ≤ n / size * size =
    mul-le (index + 1) size (n / size) size (omega arith) (omega arith) in
    omega (arith, le, div-mul-le_self n size)

-- ---- the top level

-- if the blocks of a level are larger than the tree, the level has width 0
width_none : (n level : ℕ) → n < 256 ^ level → width_of n level ≡ 0
width_none n level below = ap (λ q. q % 256) (div-eq_of_lt below)

width_lowest : (n : ℕ) → n < 256 → width_of n 0 ≡ n
width_lowest n below = ap (λ q. q % 256) (div-one n) ∙ mod-eq_of_lt below

module _ (n level : ℕ) (within : level ≤ 7) (below : n < 256 ^ (level + 1)) where
  none_above : (other : ℕ) → 0 < width_of n other → other ≤ level
  none_above other some =
      elim (cases_lt level other) [
        | inr le ↦ le
        | inl above ↦
            let large : 256 ^ (level + 1) ≤ 256 ^ other = level_mono (level + 1) other (omega arith) in
            absurd (omega (arith, some, width_none n other (omega (arith, below, large))))
      ]

  -- the first level from above with a width is the top level
  pub top_found : 0 < width_of n level → IsTop n level
  top_found some =
      record {
        within = within;
        some = λ _. some;
        none = λ is.
            let empty : width_of n level ≡ 0 = width_none n level (omega (arith, level_positive level)) in
            absurd (omega (arith, some, empty));
        greatest = λ other _ width. none_above other width;
      }

-- level 0 is the top level if the tree is smaller than one block of level 1
pub top_lowest : (n : ℕ) → n < 256 ^ 1 → IsTop n 0
top_lowest n below =
    record {
      within = omega arith;
      some = λ positive. omega (arith, width_lowest n below);
      none = λ _. refl;
      greatest = λ other _ width. none_above n 0 (omega arith) below other width;
    }

-- ---- the tile of a node

-- if a block of the level fits into a number of 64 bits, the level is at most 7
pub level_within : (level n : ℕ) → 256 ^ level ≤ n → n < 2 ^ 64 → level ≤ 7
level_within level n above below =
    elim (cases_lt level 8) [
      | inl under ↦ omega arith
      | inr over ↦
          let large : 256 ^ 8 ≤ 256 ^ level = level_mono 8 level over in
          absurd (omega (arith, above, below, large))
    ]

-- the whole is a multiple of the size
record IsMultiple (size whole : ℕ) : Type 0 where
  times : ℕ
  is : whole ≡ times * size

power_multiple : (low high : ℕ) → low ≤ high → IsMultiple (2 ^ low) (2 ^ high)
power_multiple low high le =
    let gap : high ≡ (high - low) + low = omega arith in
    record { times = 2 ^ (high - low); is = ap (λ e. 2 ^ e) gap ∙ pow-add 2 (high - low) low }

level_multiple : (size level : ℕ) → IsPowerOfTwo size → size ≤ 256 ^ (level + 1) → IsMultiple size (256 ^ (level + 1))
level_multiple size level power upto =
    let high = 8 * (level + 1) in
    let e = power.exponent in
    let le : e ≤ high = power_le e high (omega (arith, upto, power.is, level_power (level + 1), pow_pos high)) in
    let m = power_multiple e high le in
    record { times = m.times; is = level_power (level + 1) ∙ m.is ∙ ap (λ k. m.times * k) (sym power.is) }

-- a node that is aligned to its size begins and ends in the same block, if the block's size is a multiple of the
-- node's
within_block : (start size whole times : ℕ) → 0 < size → start % size ≡ 0 → whole ≡ times * size → 0 < whole →
    start + size ≤ (start / whole + 1) * whole
within_block start size whole times some aligned is positive =
    let a = start / size in
    let start_is : start ≡ a * size = omega (arith, div-add-mod' start size, aligned) in
    let index = start / whole in
    let after : start < index * whole + whole = lt-div-mul-add positive in
    let blocks : (index + 1) * whole ≡ index * whole + whole = omega arith in
    let counted : (index + 1) * whole ≡ ((index + 1) * times) * size = ap (λ w. (index + 1) * w) is ∙ omega arith in
    let below : a < (index + 1) * times = elim (cases_lt a ((index + 1) * times)) [
      | inl l ↦ l
      | inr over ↦
          let large : ((index + 1) * times) * size ≤ a * size =
          mul-le ((index + 1) * times) size a size over (omega arith) in
          absurd (omega (arith, large, start_is, after, blocks, counted))
    ] in
    let next : (a + 1) * size ≤ ((index + 1) * times) * size =
    mul-le (a + 1) size ((index + 1) * times) size (omega (arith, below)) (omega arith) in
    let more : (a + 1) * size ≡ a * size + size = omega arith in
    omega (arith, next, more, start_is, counted)

-- the node has at most 256^(level + 1) entries, if size - 1 entries do not fill a block of that size
pub spans_node : (size level rest : ℕ) → 2 ≤ size → rest ≡ (size - 1) / 256 ^ (level + 1) → rest ≡ 0 →
    size ≤ 256 ^ (level + 1)
spans_node size level rest several rest_is done =
    let whole = 256 ^ (level + 1) in
    let after : size - 1 < (size - 1) / whole * whole + whole = lt-div-mul-add (level_positive (level + 1)) in
    let none : (size - 1) / whole * whole ≡ 0 = ap (λ q. q * whole) (sym rest_is ∙ done) ∙ omega arith in
    omega (arith, after, none)

module _ (start size level index : ℕ) (several : 2 ≤ size) (upto : size ≤ 256 ^ (level + 1))
    (index_is : index ≡ start / 256 ^ (level + 1)) where
  pub tile_is : 256 ^ level ≤ size - 1 → IsTileOfNode start size level index
  tile_is above = record { above = omega (arith, above, several); upto = upto; index_is = index_is }

  pub range_has : IsPowerOfTwo size → start % size ≡ 0 → RangeHasNode level index start size
  range_has power aligned =
      let whole = 256 ^ (level + 1) in
      let multiple = level_multiple size level power upto in
      record {
        from = rw index_is (div-mul-le_self start whole);
        to = rw index_is
            (within_block start size whole multiple.times (omega (arith, several)) aligned multiple.is
            (level_positive (level + 1)));
      }

-- if n entries fill a block of that size, the size is at most n
pub rest_positive : (n size : ℕ) → 0 < size → 0 < n / size → size ≤ n
rest_positive n size some positive = omega (arith, index-fits 0 n size positive)
