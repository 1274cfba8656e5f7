-- The strings of true rows and bundles are those of the nodes in their ranges.
use Rattle.std.proofs.Common.{subst, get_or, inl, inr, ◌⊎◌, ◌≡◌, ℕ, zero, suc, ◌+◌, ◌-◌, ◌*◌, ◌/◌, ◌^◌, ◌<◌, ◌≤◌, List}
use Rattle.std.proofs.Common.{[], ◌∷◌, length, take, drop, map, sym, ap, ◌∙◌, arith, length-take, length-drop}
use Rattle.std.proofs.lemmas.List.{take_all}
use Rattle.std.proofs.lemmas.Nat.{pow_pos, mul-le}
use Rattle.std.proofs.lemmas.Bool.{cases_lt}
use Rattle.std.proofs.Math.Nat.{div-mul-le_self, lt-div-mul-add}
use Rattle.std.specs.List.{Contains}
use Rattle.tlog_hash.specs.Tree.{tree_of, mth, joins, strings}
use Rattle.tlog_hash.specs.Blocks.{IsCut, joined_up}
use Rattle.tlog_hash.specs.Rows.{part, ranges, level_row}
use Rattle.tlog_hash.specs.Nodes.{Node, IsNode}
use Rattle.tlog_hash.proofs.Folds.{joined_ranges, length-ranges}
use Rattle.tlog_shape.proofs.Levels.{level_power, level_positive, level_next}
use Rattle.std.specs.Prelude.{◌↔◌}
use Rattle.tlog_hash.proofs.NodeStrings.{from_joins, to_joins, node_of_string, string_of_node}
use Rattle.mirror_model.proofs.NodeBlocks.{node_inside, node_of_blocks, block_node, upper_node, IsInside, IsInBlock}

module _ {A : Type 0} (b : ℕ) (some : 0 < b) where
  -- ranges that end within the list, or with a shorter last range, are a cut into blocks
  pub cut_ranges : (first count : ℕ) (es : List A) → 0 < count → (first + count) * b < length es + b →
      IsCut b (ranges b first count es)
  cut_ranges first zero es positive h = absurd (omega arith)
  cut_ranges first (suc zero) es positive h =
      let e : (first + 1) * b ≡ first * b + b = omega arith in (
        omega (arith, length-take b (drop (first * b) es), length-drop (first * b) es, e),
        omega (arith, length-take b (drop (first * b) es)),
      )
  cut_ranges first (suc (suc count)) es positive h =
      let e : (first + suc (suc count)) * b ≡ (first * b + (b + b)) + count * b = omega arith in
      let same : (first + suc (suc count)) * b ≡ ((first + 1) + suc count) * b = omega arith in (
        omega (arith, length-take b (drop (first * b) es), length-drop (first * b) es, e),
        cut_ranges (first + 1) (suc count) es (omega arith) (omega (arith, same)),
      )

  pub get_or-ranges : (first count i : ℕ) (es : List A) → i < count →
      get_or (ranges b first count es) i [] ≡ part ((first + i) * b) b es
  get_or-ranges first zero i es h = absurd (omega arith)
  get_or-ranges first (suc count) zero es h =
      let e : first * b ≡ (first + 0) * b = omega arith in ap (λ n. part n b es) e
  get_or-ranges first (suc count) (suc i) es h =
      let e : ((first + 1) + i) * b ≡ (first + suc i) * b =
      omega arith in get_or-ranges (first + 1) count i es (omega arith) ∙ ap (λ n. part n b es) e

pub from_products : (i k c : ℕ) → i * c < k * c → i < k
from_products i k c h =
    elim (cases_lt i k) [
      | inl a ↦ a
      | inr a ↦ let le : k * c ≤ i * c =
          mul-le _ _ _ _ a (omega arith) in absurd (omega arith)
    ]

module _ (digest : List ℕ → List ℕ) (es : List (List ℕ)) where
  -- the node is a node of the block with that index
  pub record IsAtBlock (b : ℕ) (x : Node) : Type 0 where
    pub index : ℕ
    pub below : index * b < length es
    pub is : IsNode digest (tree_of (part (index * b) b es)) (index * b) x

  -- the number of blocks
  abbrev count_of : ℕ → ℕ
  count_of b = (length es + (b - 1)) / b

  record IsCount (b : ℕ) : Type 0 where
    upto : length es ≤ count_of b * b
    above : count_of b * b < length es + b
    some : 0 < count_of b

  count_is : (b : ℕ) → 0 < b → 0 < length es → IsCount b
  count_is b positive some =
      let n = length es + (b - 1) in
      let low : n / b * b ≤ n = div-mul-le_self n b in
      let high : n < n / b * b + b = lt-div-mul-add positive in
      let upto : length es ≤ count_of b * b = omega (arith, low, high) in
      record {
        upto =
            upto;
        above = omega (arith, low, high);
        some = from_products 0 (count_of b) b (omega (arith, upto));
      }

  module _ (j : ℕ) (filled : 0 < length es) where
    whole_is : joined_up (ranges (2 ^ j) 0 (count_of (2 ^ j)) es) ≡ es
    whole_is =
        let c = count_is (2 ^ j) (pow_pos j) filled in
        let z : 0 * 2 ^ j ≡ 0 = omega arith in
        joined_ranges (2 ^ j) 0 (count_of (2 ^ j)) es ∙ ap (λ n. take (count_of (2 ^ j) * 2 ^ j) (drop n es)) z ∙
        take_all (count_of (2 ^ j) * 2 ^ j) es c.upto

    all_blocks : IsCut (2 ^ j) (ranges (2 ^ j) 0 (count_of (2 ^ j)) es)
    all_blocks =
        let c = count_is (2 ^ j) (pow_pos j) filled in
        let z : (0 + count_of (2 ^ j)) * 2 ^ j ≡ count_of (2 ^ j) * 2 ^ j = omega arith in
        cut_ranges (2 ^ j) (pow_pos j) 0 (count_of (2 ^ j)) es c.some (omega (arith, c.above, z))

    -- a node is longer than a block, or within one
    pub to_block : (x : Node) → IsNode digest (tree_of es) 0 x → (2 ^ j < x.len) ⊎ IsAtBlock (2 ^ j) x
    to_block x n =
        let b = 2 ^ j in
        let bs = ranges b 0 (count_of b) es in
        let c = count_is b (pow_pos j) filled in
        elim (node_of_blocks digest j bs all_blocks 0 x
        (subst (λ zs. IsNode digest (tree_of zs) 0 x) (sym whole_is) n)) [
          | inl u ↦ inl u.long
          | inr i ↦
              let below : i.index < count_of b = omega (arith, i.below, length-ranges b 0 (count_of b) es) in
              let zi : 0 + i.index ≡ i.index = omega arith in
              let zb : 0 + i.index * b ≡ i.index * b = omega arith in
              let le : (i.index + 1) * b ≤ count_of b * b = mul-le _ _ _ _ (omega arith) (omega arith) in
              let e : (i.index + 1) * b ≡ i.index * b + b = omega arith in
              inr (record {
                index =
                    i.index;
                below =
                    omega (arith, le, c.above, e);
                is =
                    subst (λ m. IsNode digest (tree_of (part (i.index * b) b es)) m x) zb
                    (subst (λ m. IsNode digest (tree_of (part (m * b) b es)) (0 + i.index * b) x) zi
                    (subst (λ blk. IsNode digest (tree_of blk) (0 + i.index * b) x)
                    (get_or-ranges b (pow_pos j) 0 (count_of b) i.index es below) i.is));
              })
        ]

    -- a node of a block is a node of the list
    pub from_block : (i : ℕ) (x : Node) → i * 2 ^ j < length es →
        IsNode digest (tree_of (part (i * 2 ^ j) (2 ^ j) es)) (i * 2 ^ j) x → IsNode digest (tree_of es) 0 x
    from_block i x h n =
        let b = 2 ^ j in
        let bs = ranges b 0 (count_of b) es in
        let c = count_is b (pow_pos j) filled in
        let below : i < count_of b = from_products i (count_of b) b (omega (arith, h, c.upto)) in
        let zi : i ≡ 0 + i = omega arith in
        let zb : i * b ≡ 0 + i * b = omega arith in
        subst (λ zs. IsNode digest (tree_of zs) 0 x) whole_is
        (block_node digest j bs all_blocks 0 x (record {
          index = i;
          below = omega (arith, below, length-ranges b 0 (count_of b) es);
          is = subst (λ blk. IsNode digest (tree_of blk) (0 + i * b) x)
              (sym (get_or-ranges b (pow_pos j) 0 (count_of b) i es below))
              (subst (λ m. IsNode digest (tree_of (part (m * b) b es)) (0 + i * b) x) zi
              (subst (λ m. IsNode digest (tree_of (part (i * b) b es)) m x) zb n));
        }))

    -- a node within the range of a block is a node of the block
    pub in_range : (i : ℕ) (x : Node) → IsInside (i * 2 ^ j) (2 ^ j) x → IsNode digest (tree_of es) 0 x →
        IsNode digest (tree_of (part (i * 2 ^ j) (2 ^ j) es)) (i * 2 ^ j) x
    in_range i x inside n =
        let b = 2 ^ j in
        elim (to_block x n) [
          | inl long ↦ absurd (omega (arith, long, inside.start_in, inside.upto))
          | inr h ↦
              let k = h.index in
              let here = node_inside digest (part (k * b) b es) (k * b) x h.is in
              let short = length-take b (drop (k * b) es) in
              let ei : (i + 1) * b ≡ i * b + b = omega arith in
              let ek : (k + 1) * b ≡ k * b + b = omega arith in
              let a : i < k + 1 =
              from_products i (k + 1) b (omega (arith, inside.start_in, here.upto, short, here.some, ek)) in
              let c : k < i + 1 =
              from_products k (i + 1) b (omega (arith, inside.upto, here.start_in, here.some, ei)) in
              let same : k ≡ i = omega arith in
              subst (λ m. IsNode digest (tree_of (part (m * b) b es)) (m * b) x) same h.is
        ]

  -- a node of the tree within the range of the tile, with more entries than a hash of its level
  pub record HasTileNode (b c p : ℕ) (y : List ℕ) : Type 0 where
    pub node : Node
    pub is : IsNode digest (tree_of es) 0 node
    pub inside : IsInside (p * c) c node
    pub long : b < node.len
    pub string_is : node.string ≡ y

  -- the row has all hashes of the block with the number p of the level above
  pub record IsWholeRow (b c p w : ℕ) : Type 0 where
    pub cut : IsCut b (ranges b (256 * p) w es)
    pub covers : joined_up (ranges b (256 * p) w es) ≡ part (p * c) c es
    pub below : p * c < length es

  module _ (i j p w : ℕ) (row : IsWholeRow (2 ^ i) (2 ^ j) p w) where
    filled : 0 < length es
    filled = omega (arith, row.below)

    pub to_tile_node : (y : List ℕ) → Contains (joins digest (map (mth digest) (ranges (2 ^ i) (256 * p) w es))) y →
        HasTileNode (2 ^ i) (2 ^ j) p y
    to_tile_node y h =
        let u = upper_node digest i (ranges (2 ^ i) (256 * p) w es) row.cut (p * 2 ^ j) y
        (from_joins digest (map (mth digest) (ranges (2 ^ i) (256 * p) w es)) y h) in
        let n : IsNode digest (tree_of (part (p * 2 ^ j) (2 ^ j) es)) (p * 2 ^ j) u.node =
        subst (λ zs. IsNode digest (tree_of zs) (p * 2 ^ j) u.node) row.covers u.is in
        let here = node_inside digest (part (p * 2 ^ j) (2 ^ j) es) (p * 2 ^ j) u.node n in
        record {
          node =
              u.node;
          is =
              from_block j filled p u.node row.below n;
          inside =
              record {
                start_in =
                    here.start_in;
                upto =
                    omega (arith, here.upto, length-take (2 ^ j) (drop (p * 2 ^ j) es));
                some = here.some;
              };
          long =
              u.long;
          string_is = u.string_is;
        }

    pub from_tile_node : (y : List ℕ) → HasTileNode (2 ^ i) (2 ^ j) p y →
        Contains (joins digest (map (mth digest) (ranges (2 ^ i) (256 * p) w es))) y
    from_tile_node y h =
        let b = 2 ^ i in
        let bs = ranges b (256 * p) w es in
        let n : IsNode digest (tree_of (joined_up bs)) (p * 2 ^ j) h.node =
        subst (λ zs. IsNode digest (tree_of zs) (p * 2 ^ j) h.node) (sym row.covers)
        (in_range j filled p h.node h.inside h.is) in
        subst (Contains (joins digest (map (mth digest) bs))) h.string_is
        (to_joins digest (map (mth digest) bs) h.node.string
        (elim (node_of_blocks digest i bs row.cut (p * 2 ^ j) h.node n) [
          | inl u ↦ u.join
          | inr k ↦ absurd (short (p * 2 ^ j) bs row.cut h.node k h.long)
        ]))
      where
        block_length : (bs : List (List (List ℕ))) (k : ℕ) → IsCut (2 ^ i) bs → length (get_or bs k []) ≤ 2 ^ i
        block_length [] k c = absurd c
        block_length (x ∷ []) zero c = c.1
        block_length (x ∷ []) (suc k) c = omega arith
        block_length (x ∷ y ∷ rest) zero c = omega (arith, c.0)
        block_length (x ∷ y ∷ rest) (suc k) c = block_length (y ∷ rest) k c.1

        short : (s : ℕ) (bs : List (List (List ℕ))) → IsCut (2 ^ i) bs → (x : Node) → IsInBlock digest (2 ^ i) bs s x →
            2 ^ i < x.len → ⊥
        short s bs c x k long =
            let here =
            node_inside digest (get_or bs k.index []) (s + k.index * 2 ^ i) x k.is in omega
            (arith, here.upto, here.start_in, long, block_length bs k.index c)

  abbrev RowLaw : ℕ → ℕ → Type 0
  RowLaw b c =
      (p w : ℕ) → IsWholeRow b c p w → (y : List ℕ) →
      Contains (joins digest (map (mth digest) (ranges b (256 * p) w es))) y ↔ HasTileNode b c p y

  -- the joins of a level's row are the strings of the nodes in its range with more than 256^level entries
  pub row_law : (level : ℕ) → RowLaw (256 ^ level) (256 ^ (level + 1))
  row_law level =
      subst (λ b. RowLaw b (256 ^ (level + 1))) (sym (level_power level))
      (subst (RowLaw (2 ^ (8 * level))) (sym (level_power (level + 1)))
      (λ p w row y. (
        to_tile_node (8 * level) (8 * (level + 1)) p w row y,
        from_tile_node (8 * level) (8 * (level + 1)) p w row y,
      )))

  full_row : (level p : ℕ) → (p + 1) * 256 ^ (level + 1) ≤ length es →
      IsWholeRow (256 ^ level) (256 ^ (level + 1)) p 256
  full_row level p h =
      let b = 256 ^ level in
      let c = 256 ^ (level + 1) in
      let some : 0 < b = level_positive level in
      let next : c ≡ 256 * b = level_next level in
      let pc : p * c ≡ (256 * p) * b = ap (λ m. p * m) next ∙ omega arith in
      let pc1 : (p + 1) * c ≡ p * c + c = omega arith in
      let end : (256 * p + 256) * b ≡ (256 * p) * b + 256 * b = omega arith in
      record {
        cut = cut_ranges b some (256 * p) 256 es (omega arith) (omega (arith, end, pc, pc1, next, h));
        covers = joined_ranges b (256 * p) 256 es ∙ ap (λ m. take (256 * b) (drop m es)) (sym pc) ∙
            ap (λ m. take m (drop (p * c) es)) (sym next);
        below = omega (arith, pc1, next, h);
      }

  pub full_tile : (level p : ℕ) → (p + 1) * 256 ^ (level + 1) ≤ length es → (y : List ℕ) →
      Contains (joins digest (level_row digest es level (256 * p) 256)) y
      ↔ HasTileNode (256 ^ level) (256 ^ (level + 1)) p y
  full_tile level p h y = row_law level p 256 (full_row level p h) y

  -- the strings of a bundle are those of the nodes in its range
  pub record HasNodeIn (start len : ℕ) (y : List ℕ) : Type 0 where
    pub node : Node
    pub is : IsNode digest (tree_of es) 0 node
    pub inside : IsInside start len node
    pub string_is : node.string ≡ y

  pub bundle : (p : ℕ) → p * 256 < length es → (y : List ℕ) →
      Contains (strings digest (part (p * 256) 256 es)) y ↔ HasNodeIn (p * 256) 256 y
  bundle p h y =
      let filled : 0 < length es = omega arith in (
        λ s. let n = node_of_string digest (part (p * 256) 256 es) (p * 256) y s in
            let here = node_inside digest (part (p * 256) 256 es) (p * 256) n.node n.is in
            record {
              node =
                  n.node;
              is =
                  from_block 8 filled p n.node h n.is;
              inside =
                  record {
                    start_in =
                        here.start_in;
                    upto = omega (arith, here.upto, length-take 256 (drop (p * 256) es));
                    some = here.some;
                  };
              string_is = n.string_is;
            },
        λ n. subst (Contains (strings digest (part (p * 256) 256 es))) n.string_is
            (string_of_node digest (part (p * 256) 256 es) (p * 256) n.node (in_range 8 filled p n.node n.inside n.is)),
      )
