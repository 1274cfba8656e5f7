-- A full tile of level 1 or above: its row is gathered hash by hash.
use Rattle.std.proofs.Common.{◌≡◌, ◌≢◌, ◌⊎◌, ℕ, ◌+◌, ◌-◌, ◌*◌, ◌/◌, ◌^◌, ◌≤◌, ◌<◌, max, List, [], ◌∷◌, ◌++◌, length}
use Rattle.std.proofs.Common.{take, map, get_or, Option, sym, ap, subst, ◌∙◌, arith, inl, inr}
use Rattle.std.proofs.Math.Nat.{div-mul-le_self, lt-div-mul-add}
use Rattle.std.proofs.lemmas.Nat.{mul-le}
use Rattle.std.proofs.lemmas.Bool.{cases_lt}
use Rattle.std.proofs.lemmas.List.{take_all, take_more, map-append}
use Rattle.tlog_shape.specs.Edge.{width_of, edge_index_of}
use Rattle.tlog_shape.proofs.Levels.{level_positive, level_next}
use Rattle.tlog_hash.specs.Rows.{part, ranges, level_row}
use Rattle.tlog_hash.specs.Tree.{fold_of, mth}
use Rattle.tlog_hash.proofs.Folds.{ranges_more}
use Rattle.tlog_tiles.specs.declared.paths.Path.{Path}
use Rattle.tlog_tiles.specs.declared.paths.Path.TheVariants.{Tile}
use Rattle.tlog_tiles.specs.Row.{IsRow, row_text}
use Rattle.tlog_tiles.specs.Tiles.{IsTileWithin, IsWithin}
use Rattle.tlog_tiles.proofs.EdgeLemmas.{hashes_of}
use Rattle.tlog_tiles.proofs.TileLemmas.{row_folds}
use Rattle.mirror_sources.specs.Recorded.{KeepsRecord, AddsToRecord}
use Rattle.mirror_folders.specs.Shelf.{Put}
use Rattle.copy_follow.specs.Growing.{IsNewFile, Obtains, HoldsBelow, IsBelow, IsKnown, IsBrought, IsRowBrought, IsCutShort, Tip}
use Rattle.copy_places.proofs.Prefixes.{level_row_front}
use Rattle.copy_follow.proofs.Below.{below_child, below_within, holds_gathered, records_earlier}
use Rattle.copy_follow.specs.Standing.{RecordsStands}
use Rattle.mirror_sources.specs.Honest.{true_bytes}
use Rattle.copy_follow.proofs.Growth.{kept_adds, kept_same, gathers_keep, gathers_none, gathers_then, known_more}

-- the number of hashes of a tile that cover only entries of the tip
abbrev pub IsFirst : Tip → ℕ → ℕ → List (List ℕ) → ℕ → Type 0
IsFirst tip level index row first =
    ((index ≡ edge_index_of tip.size level) × (first ≡ width_of tip.size level)
    × (take first row ≡ get_or tip.rows level []))
    ⊎ ((index ≢ edge_index_of tip.size level) × (first ≡ 0))

-- a tile of that level and index begins where its first hash begins
pub place_of : (level index : ℕ) → index * 256 ^ (level + 1) ≡ 256 * index * 256 ^ level
place_of level index = ap (λ n. index * n) (level_next level) ∙ omega arith

-- the indices of a tile and of its children are small
pub child_small : (level index width i : ℕ) → i < width → (256 * index + width) * 256 ^ level ≤ 9223372036854775808 →
    256 * index + i < 9223372036854775808
child_small level index width i lt fits =
    let some = level_positive level in
    let less : (256 * index + width) * 1 ≤ (256 * index + width) * 256 ^ level =
    mul-le (256 * index + width) 1 (256 * index + width) (256 ^ level) (omega arith) (omega arith) in
    omega (arith, less, fits)

pub child_fits : (level index width i : ℕ) → i < width → (256 * index + width) * 256 ^ level ≤ 9223372036854775808 →
    (256 * index + i + 1) * 256 ^ level ≤ 9223372036854775808
child_fits level index width i lt fits =
    let less : (256 * index + i + 1) * 256 ^ level ≤ (256 * index + width) * 256 ^ level =
    mul-le (256 * index + i + 1) (256 ^ level) (256 * index + width) (256 ^ level) (omega arith) (omega arith) in
    omega (arith, less, fits)

pub row_fits : (level index width : ℕ) → width ≡ 256 → (index + 1) * 256 ^ (level + 1) ≤ 9223372036854775808 →
    (256 * index + width) * 256 ^ level ≤ 9223372036854775808
row_fits level index width is fits =
    let whole : (256 * index + width) * 256 ^ level ≡ 256 * (index + 1) * 256 ^ level =
    ap (λ k. k * 256 ^ level) (omega arith) in
    omega (arith, whole, fits, place_of level (index + 1))

-- the puts were kept before a row was brought
pub row_then : (digest : List ℕ → List ℕ) (tip : Tip) (level index : ℕ) (row known : List (List ℕ))
    (x y z : Option (List Put)) → KeepsRecord x y → {n : ℕ} → IsRowBrought digest tip level index row known y z n →
    IsRowBrought digest tip level index row known x z n
row_then digest tip level index row known x y z kept b = record {
  next = b.next;
  gathers = gathers_then digest tip.size known known b.next x y z (gathers_none digest tip.size known x y kept) b.gathers;
  size_is = b.size_is;
  row_is = b.row_is;
  holds = λ k lt path below new.
      records_earlier x y z [] path (true_bytes digest b.next path) (kept_adds x y kept) (b.holds k lt path below new);
}

module _ (tip : Tip) (level index : ℕ) (beyond : tip.size < (index + 1) * 256 ^ (level + 1)) where
  abbrev m : ℕ
  m = tip.size

  -- the bounds that follow from the index of the first new hash
  record Begins (first : ℕ) : Type 0 where
    past : m < (256 * index + first + 1) * 256 ^ level
    same : max m ((256 * index + first) * 256 ^ level) ≡ max m (index * 256 ^ (level + 1))

  at_edge : (first : ℕ) → index ≡ edge_index_of m level → first ≡ width_of m level → Begins first
  at_edge first at is =
      let size = 256 ^ level in
      let hashes : 256 * index + first ≡ m / size =
      omega (arith, hashes_of m level, at, is) in
      let upto : m / size * size ≤ m = div-mul-le_self m size in
      let above : m < m / size * size + size = lt-div-mul-add (level_positive level) in
      let cut : (256 * index + first) * size ≡ m / size * size = ap (λ k. k * size) hashes in
      let next : (256 * index + first + 1) * size ≡ m / size * size + size =
      ap (λ k. (k + 1) * size) hashes ∙ omega arith in
      let start : index * 256 ^ (level + 1) ≡ 256 * index * size = place_of level index in
      let less : 256 * index * size ≤ (256 * index + first) * size =
      mul-le (256 * index) size (256 * index + first) size (omega arith) (omega arith) in
      record { past = omega (arith, next, above); same = omega (arith, start, less, cut, upto) }

  beside : (first : ℕ) → index ≢ edge_index_of m level → first ≡ 0 → Begins first
  beside first other is =
      let whole = 256 ^ (level + 1) in
      let size = 256 ^ level in
      let ei = edge_index_of m level in
      let upto : ei * whole ≤ m = div-mul-le_self m whole in
      let above : m < ei * whole + whole = lt-div-mul-add (level_positive (level + 1)) in
      let start : index * whole ≡ 256 * index * size = place_of level index in
      let below : ei < index = elim (cases_lt ei index) [
        | inl lt ↦ lt
        | inr ge ↦
            let more : index + 1 ≤ ei = omega arith in
            let far : (index + 1) * whole ≤ ei * whole = mul-le (index + 1) whole ei whole more (omega arith) in
            absurd (omega (arith, far, upto, beyond))
      ] in
      let near : (ei + 1) * whole ≤ index * whole = mul-le (ei + 1) whole index whole (omega arith) (omega arith) in
      let next : (ei + 1) * whole ≡ ei * whole + whole = omega arith in
      let first_at : (256 * index + first) * size ≡ 256 * index * size =
      ap (λ k. (256 * index + k) * size) is ∙ ap (λ k. k * size) (omega arith) in
      let one_more : (256 * index + first + 1) * size ≡ (256 * index + first) * size + size = omega arith in
      record {
        past = omega (arith, near, next, above, start, first_at, one_more);
        same = omega (arith, near, next, above, start, first_at);
      }

  begins : (row : List (List ℕ)) (first : ℕ) → IsFirst tip level index row first → Begins first
  begins row first (inl h) = at_edge first h.0 h.1
  begins row first (inr h) = beside first h.0 h.1

  -- each hash from the first new one on ends after the tip
  pub child_beyond : (row : List (List ℕ)) (first i : ℕ) → IsFirst tip level index row first → first ≤ i →
      m < (256 * index + i + 1) * 256 ^ level
  child_beyond row first i is le =
      let past = (begins row first is).past in
      let less : (256 * index + first + 1) * 256 ^ level ≤ (256 * index + i + 1) * 256 ^ level =
      mul-le (256 * index + first + 1) (256 ^ level) (256 * index + i + 1) (256 ^ level) (omega arith) (omega arith) in
      omega (arith, past, less)

  -- a child that begins within the tip's entries is the first child that is brought
  pub first_child : (row : List (List ℕ)) (first i : ℕ) → IsFirst tip level index row first → first ≤ i → 1 ≤ level →
      (256 * index + i) * 256 ^ (level - 1 + 1) ≤ m → (i ≡ first) × (index * 256 ^ (level + 1) ≤ m)
  first_child row first i is le some within =
      let up : level - 1 + 1 ≡ level = omega arith in
      let at : (256 * index + i) * 256 ^ level ≤ m =
      subst (λ l. (256 * index + i) * 256 ^ l ≤ m) up within in
      let less : 256 * index * 256 ^ level ≤ (256 * index + i) * 256 ^ level =
      mul-le (256 * index) (256 ^ level) (256 * index + i) (256 ^ level) (omega arith) (omega arith) in (
        elim (cases_lt first i) [
          | inr ge ↦ omega arith
          | inl lt ↦
              let past = child_beyond row first (i - 1) is (omega arith) in
              let same : (256 * index + (i - 1) + 1) * 256 ^ level ≡ (256 * index + i) * 256 ^ level =
              ap (λ k. k * 256 ^ level) (omega arith) in
              absurd (omega (arith, past, same, at))
        ],
        omega (arith, place_of level index, less, at),
      )

  -- the files below the first hashes are the tip's
  pub old_below : 1 ≤ level → level ≤ 7 → (row : List (List ℕ)) (first : ℕ) → IsFirst tip level index row first →
      (k : ℕ) → k < first → (path : Path) → IsBelow (level - 1) (256 * index + k) path → IsWithin m path
  old_below some upto row first (inl h) k lt path below =
      let size = 256 ^ level in
      let at = h.0 in
      let is = h.1 in
      let up : level - 1 + 1 ≡ level = omega arith in
      let end : (256 * index + k + 1) * 256 ^ (level - 1 + 1) ≡ (256 * index + k + 1) * size =
      ap (λ l. (256 * index + k + 1) * 256 ^ l) up in
      let hashes : 256 * index + first ≡ m / size = omega (arith, hashes_of m level) in
      let upto_m : m / size * size ≤ m = div-mul-le_self m size in
      let less : (256 * index + k + 1) * size ≤ m / size * size =
      mul-le (256 * index + k + 1) size (m / size) size (omega (arith, hashes)) (omega arith) in
      below_within (level - 1) (256 * index + k) m path (omega arith) (omega (arith, less, upto_m, end)) below
  old_below some upto row first (inr h) k lt path below = let none = h.1 in absurd (omega arith)

  module _ (some : 1 ≤ level) (upto : level ≤ 7) (digest : List ℕ → List ℕ) (row : List (List ℕ))
      (known : List (List ℕ)) where
    abbrev SoFar : Option (List Put) → Option (List Put) → ℕ → Type 0
    SoFar x y i = IsRowBrought digest tip level index row known x y i

    abbrev sub : ℕ
    sub = level - 1

    up : sub + 1 ≡ level
    up = omega arith

    -- the end of a child
    child_end : (k : ℕ) → (256 * index + k + 1) * 256 ^ (sub + 1) ≡ (256 * index + k + 1) * 256 ^ level
    child_end k = ap (λ l. (256 * index + k + 1) * 256 ^ l) up

    -- the entries below the first hashes are the tip's
    none_new : (x y : Option (List Put)) (first : ℕ) → IsFirst tip level index row first → (k : ℕ) → k < first →
        HoldsBelow digest m sub (256 * index + k) known x y
    none_new x y first is k lt path below new = absurd (new (old_below some upto row first is k lt path below))

    pub so_far_first : (x : Option (List Put)) (first : ℕ) → IsKnown digest tip (index * 256 ^ (level + 1)) known →
        IsFirst tip level index row first → SoFar x x first
    so_far_first x first is (inl h) = record {
      next = known;
      gathers = gathers_none digest m known x x (kept_same x);
      size_is = is.size_is ∙ sym (at_edge first h.0 h.1).same;
      row_is = h.2 ∙ (is.rows_are level upto
          ∙ (ap (λ n. level_row digest known level (256 * n) (width_of m level)) (sym h.0)
          ∙ ap (λ n. level_row digest known level (256 * index) n) (sym h.1)));
      holds = none_new x x first (inl h);
    }
    so_far_first x first is (inr h) = record {
      next = known;
      gathers = gathers_none digest m known x x (kept_same x);
      size_is = is.size_is ∙ sym (beside first h.0 h.1).same;
      row_is = ap (λ n. take n row) h.1 ∙ ap (λ n. level_row digest known level (256 * index) n) (sym h.1);
      holds = none_new x x first (inr h);
    }

    -- the facts before the next child
    pub so_far_known : (x y : Option (List Put)) (i start : ℕ) → IsKnown digest tip start known →
        (s : SoFar x y i) → IsKnown digest tip ((256 * index + i) * 256 ^ (sub + 1)) s.next
    so_far_known x y i start is s =
        subst (λ l. IsKnown digest tip ((256 * index + i) * 256 ^ l) s.next) (sym up)
        (known_more digest tip start ((256 * index + i) * 256 ^ level) known s.next x y is s.gathers s.size_is)

    pub so_far_more : (x y z : Option (List Put)) (i : ℕ) (h : List ℕ) → i < length row →
        h ≡ get_or row i h → m < (256 * index + i + 1) * 256 ^ level → (s : SoFar x y i) →
        IsBrought digest tip sub (256 * index + i) h s.next y z → SoFar x z (i + 1)
    so_far_more x y z i h lt at past s b =
        let size = 256 ^ level in
        let long = s.size_is in
        let within : (256 * index + i) * size ≤ length s.next = omega arith in
        let one : (256 * index + (i + 1)) * size ≡ (256 * index + i + 1) * size = ap (λ k. k * size) (omega arith) in
        let end : length b.next ≡ (256 * index + i + 1) * size = b.size_is ∙ child_end i in
        let hash : h ≡ mth digest (part ((256 * index + i) * size) size b.next) =
        b.hash_is ∙ ap (λ l. mth digest (part ((256 * index + i) * 256 ^ l) (256 ^ l) b.next)) up in
        let before : level_row digest b.next level (256 * index) i ≡ level_row digest s.next level (256 * index) i =
        ap (λ (l : List (List ℕ)). level_row digest l level (256 * index) i) b.gathers.next_is
        ∙ level_row_front digest s.next b.gathers.more level (256 * index) i within in
        let grown : level_row digest b.next level (256 * index) (i + 1)
        ≡ level_row digest b.next level (256 * index) i ++ mth digest (part ((256 * index + i) * size) size b.next) ∷ [] =
        ap (map (mth digest)) (ranges_more size (256 * index) i b.next)
        ∙ map-append (mth digest) (ranges size (256 * index) i b.next) (part ((256 * index + i) * size) size b.next ∷ [])
        in
        record {
          next = b.next;
          gathers = gathers_then digest m known s.next b.next x y z s.gathers b.gathers;
          size_is = omega (arith, end, one, past);
          row_is = take_more row i h lt
              ∙ ((λ j. (s.row_is ∙ sym before) j ++ (sym at ∙ hash) j ∷ []) ∙ sym grown);
          holds = λ k below_next. elim (cases_lt k i) [
            | inl lower ↦ holds_gathered digest m sub (256 * index + k) s.next b.next x y z (omega arith)
                (ends_before k i s.next lower within) b.gathers (s.holds k lower)
            | inr last ↦
                let same : i ≡ k = omega arith in
                subst (λ n. HoldsBelow digest m sub (256 * index + n) b.next x z) same
                (λ path below new. records_earlier x y z s.gathers.puts path (true_bytes digest b.next path) s.gathers.recorded
                (b.holds path below new))
          ];
        }
      where
        ends_before : (k i : ℕ) (next : List (List ℕ)) → k < i → (256 * index + i) * 256 ^ level ≤ length next →
            (256 * index + k + 1) * 256 ^ (sub + 1) ≤ length next
        ends_before k i next lower within =
            let less : (256 * index + k + 1) * 256 ^ level ≤ (256 * index + i) * 256 ^ level =
            mul-le (256 * index + k + 1) (256 ^ level) (256 * index + i) (256 ^ level) (omega arith) (omega arith) in
            omega (arith, less, child_end k, within)

    pub so_far_left : (x y z : Option (List Put)) (i : ℕ) → (s : SoFar x y i) →
        IsCutShort digest m s.next y z → IsCutShort digest m known x z
    so_far_left x y z i s b = record {
      next = b.next;
      gathers = gathers_then digest m known s.next b.next x y z s.gathers b.gathers;
    }

    -- the whole row of a full tile
    module _ (x y : Option (List Put)) (long : length row ≡ 256) (s : SoFar x y 256) where
      row_true : row ≡ level_row digest s.next level (256 * index) 256
      row_true = sym (take_all 256 row (omega arith)) ∙ s.row_is

      ends : (256 * index + 256) * 256 ^ level ≡ (index + 1) * 256 ^ (level + 1)
      ends = ap (λ k. k * 256 ^ level) (omega arith) ∙ sym (place_of level (index + 1))

      long_next : length s.next ≡ (index + 1) * 256 ^ (level + 1)
      long_next = let size = s.size_is in omega (arith, ends, beyond)

      hash_true : (hash : List ℕ) → fold_of digest row ≡ hash →
          hash ≡ mth digest (part (index * 256 ^ (level + 1)) (256 ^ (level + 1)) s.next)
      hash_true hash folds =
          let within : (256 * index + 256) * 256 ^ level ≤ length s.next = omega (arith, ends, long_next) in
          sym folds ∙ (ap (fold_of digest) row_true
          ∙ (row_folds digest s.next level (256 * index) 256 (omega arith) within
          ∙ ((λ j. mth digest (part (sym (place_of level index) j) (sym (level_next level) j) s.next)))))

      new_tile : (bytes : List ℕ) → IsRow 256 bytes row → IsNewFile digest m s.next (Tile level index 256, bytes)
      new_tile bytes h = record {
        new = λ (old : IsTileWithin m level index 256). let within = old.within in omega (arith, within, ends, beyond);
        within = record {
          level_fits = upto;
          some = omega arith;
          upto = omega arith;
          within = omega (arith, ends, long_next);
        };
        bytes_are = h.text ∙ ap row_text row_true;
      }

      module _ (z : Option (List Put)) (bytes : List ℕ) (is : IsRow 256 bytes row)
          (puts : (KeepsRecord y z) ⊎ (AddsToRecord y z ((Tile level index 256, bytes) ∷ []))) where
        gathers_tile : Obtains digest m s.next s.next y z
        gathers_tile = gathers_keep digest m s.next y z (Tile level index 256, bytes) puts (new_tile bytes is)

        gathers_all : Obtains digest m known s.next x z
        gathers_all = gathers_then digest m known s.next s.next x y z s.gathers gathers_tile

        pub tile_left : IsCutShort digest m known x z
        tile_left = record { next = s.next; gathers = gathers_all }

        holds : RecordsStands y z (Tile level index 256) bytes → HoldsBelow digest m level index s.next x z
        holds there path below new =
            elim (below_child sub index path (subst (λ l. IsBelow l index path) (sym up) below)) [
              | inl tile ↦
                  let all : RecordsStands x z (Tile level index 256) bytes =
                  records_earlier x y z s.gathers.puts (Tile level index 256) bytes s.gathers.recorded there in
                  let at : path ≡ Tile level index 256 = tile ∙ ap (λ l. Tile l index 256) up in
                  subst (λ p. RecordsStands x z p (true_bytes digest s.next p)) (sym at)
                  (subst (λ b. RecordsStands x z (Tile level index 256) b) (new_tile bytes is).bytes_are all)
              | inr child ↦
                  let k = child.0 in
                  let less : (256 * index + k + 1) * 256 ^ level ≤ (256 * index + 256) * 256 ^ level =
                  mul-le (256 * index + k + 1) (256 ^ level) (256 * index + 256) (256 ^ level) (omega (arith, child.1))
                  (omega arith) in
                  holds_gathered digest m sub (256 * index + k) s.next s.next x y z (omega arith)
                  (omega (arith, less, child_end k, ends, long_next)) gathers_tile (s.holds k child.1) path child.2 new
            ]

        pub tile_brought : (hash : List ℕ) → fold_of digest row ≡ hash → RecordsStands y z (Tile level index 256) bytes →
            IsBrought digest tip level index hash known x z
        tile_brought hash folds there = record {
          next = s.next;
          gathers = gathers_all;
          size_is = long_next;
          hash_is = hash_true hash folds;
          holds = holds there;
        }
