-- Full tiles and bundles, whose entries are a block of the list.
use Rattle.std.proofs.Common.{◌≡◌, ◌⊎◌, inl, inr, ℕ, ◌+◌, ◌-◌, ◌*◌, ◌/◌, ◌^◌, ◌≤◌, ◌<◌, sym, ap, subst, ◌∙◌, arith}
use Rattle.std.proofs.Math.Nat.{div-mul-le_self}
use Rattle.std.proofs.lemmas.Bool.{cases_lt}
use Rattle.std.proofs.lemmas.Nat.{le-div, mul-le, pow-add}
use Rattle.tlog_shape.proofs.Levels.{level_positive, level_next}
use Rattle.tlog_tiles.specs.declared.paths.Path.{Path}
use Rattle.tlog_tiles.specs.declared.paths.Path.TheVariants.{Checkpoint, Tile, Entries}
use Rattle.copy_reader.specs.Covering.{IsBlock, IsFullIn}

-- a tile of that level and index begins where its first hash begins
pub place_of : (level index : ℕ) → index * 256 ^ (level + 1) ≡ 256 * index * 256 ^ level
place_of level index = ap (λ n. index * n) (level_next level) ∙ omega arith

-- two blocks of one size are one, if the first is within the second
pub same_block : (s i index : ℕ) → 0 < s → index * s ≤ i * s → (i + 1) * s ≤ (index + 1) * s → i ≡ index
same_block s i index some from to = elim (cases_lt i index) [
  | inl lt ↦
      let far : (i + 1) * s ≤ index * s = mul-le (i + 1) s index s (omega arith) (omega arith) in
      let one : (i + 1) * s ≡ i * s + s = omega arith in
      absurd (omega (arith, far, one, from, some))
  | inr ge ↦ elim (cases_lt index i) [
    | inl lt ↦
        let far : (index + 1) * s ≤ i * s = mul-le (index + 1) s i s (omega arith) (omega arith) in
        let one : (i + 1) * s ≡ i * s + s = omega arith in
        absurd (omega (arith, far, one, to, some))
    | inr le ↦ omega arith
  ]
]

-- a block of a lower level is on one side of the end of a block
pub block_split : (most from mid to q level index width : ℕ) → mid ≡ q * 256 ^ (most + 1) →
    IsBlock most from to level index width →
    (IsBlock most from mid level index width) ⊎ (IsBlock most mid to level index width)
block_split most from mid to q level index width at b =
    let low = b.low in
    let s = 256 ^ (level + 1) in
    let gap : most + 1 ≡ (most - level) + (level + 1) = omega arith in
    let power : 256 ^ (most + 1) ≡ 256 ^ (most - level) * s =
    ap (λ e. 256 ^ e) gap ∙ pow-add 256 (most - level) (level + 1) in
    let k = q * 256 ^ (most - level) in
    let there : mid ≡ k * s = at ∙ (ap (λ p. q * p) power ∙ omega arith) in
    elim (cases_lt index k) [
      | inl lt ↦
          let less : (index + 1) * s ≤ k * s = mul-le (index + 1) s k s (omega arith) (omega arith) in
          inl (record { low = b.low; starts = b.starts; ends = omega (arith, less, there); full = b.full })
      | inr ge ↦
          let less : k * s ≤ index * s = mul-le k s index s ge (omega arith) in
          inr (record { low = b.low; starts = omega (arith, less, there); ends = b.ends; full = b.full })
    ]

pub full_split : (most from mid to q : ℕ) (path : Path) → mid ≡ q * 256 ^ (most + 1) → IsFullIn most from to path →
    (IsFullIn most from mid path) ⊎ (IsFullIn most mid to path)
full_split most from mid to q Checkpoint at h = absurd h
full_split most from mid to q (Tile level index width) at h = block_split most from mid to q level index width at h
full_split most from mid to q (Entries index width) at h = block_split most from mid to q 0 index width at h

-- no block is in an empty range
pub none_in : (most from to : ℕ) (path : Path) → to ≤ from → IsFullIn most from to path → ⊥
none_in most from to Checkpoint le h = absurd h
none_in most from to (Tile level index width) le h =
    let s = 256 ^ (level + 1) in
    let some = level_positive (level + 1) in
    let one : (index + 1) * s ≡ index * s + s = omega arith in
    omega (arith, one, some, h.starts, h.ends, le)
none_in most from to (Entries index width) le h =
    let starts : from ≤ index * 256 = h.starts in
    let ends : (index + 1) * 256 ≤ to = h.ends in
    omega (arith, starts, ends, le)

-- the whole blocks of a level end at or before those of a level below
pub floor_mono : (n low high : ℕ) → low ≤ high → n / 256 ^ high * 256 ^ high ≤ n / 256 ^ low * 256 ^ low
floor_mono n low high le =
    let gap : high ≡ (high - low) + low = omega arith in
    let power : 256 ^ high ≡ 256 ^ (high - low) * 256 ^ low =
    ap (λ e. 256 ^ e) gap ∙ pow-add 256 (high - low) low in
    let t = n / 256 ^ high * 256 ^ (high - low) in
    let whole : n / 256 ^ high * 256 ^ high ≡ t * 256 ^ low =
    ap (λ p. n / 256 ^ high * p) power ∙ omega arith in
    let upto : t * 256 ^ low ≤ n = omega (arith, whole, div-mul-le_self n (256 ^ high)) in
    let fewer : t ≤ n / 256 ^ low = le-div t n (256 ^ low) (level_positive low) upto in
    let less : t * 256 ^ low ≤ n / 256 ^ low * 256 ^ low = mul-le t (256 ^ low) (n / 256 ^ low) (256 ^ low) fewer (omega arith) in
    omega (arith, whole, less)

-- a block within n entries is within the whole blocks of each level that is not higher
pub end_floor : (n low level index : ℕ) → low ≤ level + 1 → (index + 1) * 256 ^ (level + 1) ≤ n →
    (index + 1) * 256 ^ (level + 1) ≤ n / 256 ^ low * 256 ^ low
end_floor n low level index le ends =
    let s = 256 ^ (level + 1) in
    let fewer : index + 1 ≤ n / s = le-div (index + 1) n s (level_positive (level + 1)) ends in
    let less : (index + 1) * s ≤ n / s * s = mul-le (index + 1) s (n / s) s fewer (omega arith) in
    omega (arith, less, floor_mono n low (level + 1) le)

-- a block within the rows of a level and of those above it: it is below the rows above, or below the row of that level
block_levels : (n low level l index width : ℕ) → low ≡ level + 1 → 1 ≤ level → level ≤ 7 →
    IsBlock 6 0 (n / 256 ^ level * 256 ^ level) l index width →
    (IsBlock 6 0 (n / 256 ^ low * 256 ^ low) l index width)
    ⊎ (IsBlock (level - 1) (n / 256 ^ low * 256 ^ low) (n / 256 ^ level * 256 ^ level) l index width)
block_levels n low level l index width is some upto b = elim (cases_lt l level) [
  | inr high ↦
      let ends = b.ends in
      let within : (index + 1) * 256 ^ (l + 1) ≤ n = omega (arith, ends, div-mul-le_self n (256 ^ level)) in
      inl (record {
        low = b.low;
        starts = b.starts;
        ends = end_floor n low l index (omega arith) within;
        full = b.full;
      })
  | inl lower ↦
      let up : level - 1 + 1 ≡ level = omega arith in
      let whole : n / 256 ^ low * 256 ^ low ≡ n / 256 ^ low * 256 * 256 ^ level =
      ap (λ e. n / 256 ^ low * 256 ^ e) is ∙ (ap (λ p. n / 256 ^ low * p) (level_next level) ∙ omega arith) in
      let at : n / 256 ^ low * 256 ^ low ≡ n / 256 ^ low * 256 * 256 ^ (level - 1 + 1) =
      whole ∙ ap (λ e. n / 256 ^ low * 256 * 256 ^ e) (sym up) in
      let lowered : IsBlock (level - 1) 0 (n / 256 ^ level * 256 ^ level) l index width =
      record { low = omega arith; starts = b.starts; ends = b.ends; full = b.full } in
      elim (block_split (level - 1) 0 (n / 256 ^ low * 256 ^ low) (n / 256 ^ level * 256 ^ level) (n / 256 ^ low * 256) l
      index width at lowered) [
        | inl before ↦ inl (record { low = b.low; starts = before.starts; ends = before.ends; full = before.full })
        | inr after ↦ inr after
      ]
]

pub full_levels : (n low level : ℕ) (path : Path) → low ≡ level + 1 → 1 ≤ level → level ≤ 7 →
    IsFullIn 6 0 (n / 256 ^ level * 256 ^ level) path →
    (IsFullIn 6 0 (n / 256 ^ low * 256 ^ low) path)
    ⊎ (IsFullIn (level - 1) (n / 256 ^ low * 256 ^ low) (n / 256 ^ level * 256 ^ level) path)
full_levels n low level Checkpoint is some upto h = absurd h
full_levels n low level (Tile l index width) is some upto h = block_levels n low level l index width is some upto h
full_levels n low level (Entries index width) is some upto h = block_levels n low level 0 index width is some upto h

-- the files of a tile: its own, and those below its row
block_tile : (level index l i width : ℕ) → 1 ≤ level →
    IsBlock level (index * 256 ^ (level + 1)) ((index + 1) * 256 ^ (level + 1)) l i width →
    ((l ≡ level) × (i ≡ index) × (width ≡ 256))
    ⊎ (IsBlock (level - 1) (256 * index * 256 ^ level) ((256 * index + 256) * 256 ^ level) l i width)
block_tile level index l i width some b = elim (cases_lt l level) [
  | inl lower ↦
      let starts = b.starts in
      let ends = b.ends in
      let whole : (256 * index + 256) * 256 ^ level ≡ 256 * (index + 1) * 256 ^ level =
      ap (λ k. k * 256 ^ level) (omega arith) in
      inr (record {
        low = omega arith;
        starts = omega (arith, starts, place_of level index);
        ends = omega (arith, ends, whole, place_of level (index + 1));
        full = b.full;
      })
  | inr high ↦
      let low = b.low in
      let at : l ≡ level = omega arith in
      let starts : index * 256 ^ (level + 1) ≤ i * 256 ^ (level + 1) =
      subst (λ k. index * 256 ^ (level + 1) ≤ i * 256 ^ (k + 1)) at b.starts in
      let ends : (i + 1) * 256 ^ (level + 1) ≤ (index + 1) * 256 ^ (level + 1) =
      subst (λ k. (i + 1) * 256 ^ (k + 1) ≤ (index + 1) * 256 ^ (level + 1)) at b.ends in
      inl (at, same_block (256 ^ (level + 1)) i index (level_positive (level + 1)) starts ends, b.full)
]

pub full_tile : (level index : ℕ) (path : Path) → 1 ≤ level →
    IsFullIn level (index * 256 ^ (level + 1)) ((index + 1) * 256 ^ (level + 1)) path →
    (path ≡ Tile level index 256)
    ⊎ (IsFullIn (level - 1) (256 * index * 256 ^ level) ((256 * index + 256) * 256 ^ level) path)
full_tile level index Checkpoint some h = absurd h
full_tile level index (Tile l i width) some h = elim (block_tile level index l i width some h) [
  | inl same ↦ inl (λ j. Tile (same.0 j) (same.1 j) (same.2 j))
  | inr below ↦ inr below
]
full_tile level index (Entries i width) some h = elim (block_tile level index 0 i width some h) [
  | inl same ↦ let zero = same.0 in absurd (omega arith)
  | inr below ↦ inr below
]

-- the files of a full bundle: its own, and its tile of level 0
pub full_bundle : (index : ℕ) (path : Path) →
    IsFullIn 0 (index * 256 ^ (0 + 1)) ((index + 1) * 256 ^ (0 + 1)) path →
    (path ≡ Tile 0 index 256) ⊎ (path ≡ Entries index 256)
full_bundle index Checkpoint h = absurd h
full_bundle index (Tile l i width) h =
    let low = h.low in
    let at : l ≡ 0 = omega arith in
    let starts : index * 256 ≤ i * 256 = subst (λ k. index * 256 ≤ i * 256 ^ (k + 1)) at h.starts in
    let ends : (i + 1) * 256 ≤ (index + 1) * 256 = subst (λ k. (i + 1) * 256 ^ (k + 1) ≤ (index + 1) * 256) at h.ends in
    let same = same_block 256 i index (omega arith) starts ends in
    inl (λ j. Tile (at j) (same j) (h.full j))
full_bundle index (Entries i width) h =
    let starts : index * 256 ≤ i * 256 = h.starts in
    let ends : (i + 1) * 256 ≤ (index + 1) * 256 = h.ends in
    let same = same_block 256 i index (omega arith) starts ends in
    inr (λ j. Entries (same j) (h.full j))
