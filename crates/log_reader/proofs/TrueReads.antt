-- Reads of a source that has the files of a log.
use Rattle.std.proofs.Common.{◌≡◌, ◌≢◌, ℕ, ◌+◌, ◌-◌, ◌*◌, ◌/◌, ◌%◌, ◌^◌, ◌<◌, ◌≤◌, List, [], ◌∷◌, length, drop}
use Rattle.std.proofs.Common.{Global, Vec, get_or, Option, Some, None, Result, Ok, Err, inl, inr, refl, sym, ap, subst, ◌∙◌, arith}
use Rattle.std.proofs.Math.Nat.{div-mul-le_self}
use Rattle.std.proofs.lemmas.List.{get_or-map, length-map}
use Rattle.std.proofs.lemmas.Nat.{mul-le}
use Rattle.tlog_shape.specs.Edge.{edge_index_of, width_of}
use Rattle.tlog_shape.proofs.Levels.{level_next, level_positive}
use Rattle.tlog_hash.specs.Tree.{fold_of, mth}
use Rattle.tlog_hash.specs.Rows.{level_row, part, ranges}
use Rattle.tlog_hash.proofs.Folds.{length-ranges}
use Rattle.tlog_tiles.specs.declared.paths.Path.{Path}
use Rattle.tlog_tiles.specs.declared.paths.Path.TheVariants.{Tile}
use Rattle.tlog_tiles.specs.Row.{IsRow}
use Rattle.tlog_tiles.specs.Tiles.{tile_bytes}
use Rattle.tlog_tiles.proofs.EdgeLemmas.{hashes_of}
use Rattle.tlog_tiles.proofs.RowLemmas.{row_one}
use Rattle.tlog_tiles.proofs.TileLemmas.{row_folds}
use Rattle.mirror_model.specs.Strings.{IsDigest}
use Rattle.mirror_model.proofs.RowLaws.{get_or-ranges}
use Rattle.mirror_model.proofs.TrueItems.{tile_end}
use Rattle.mirror_sources.specs.Source.{StaysWithin}
use Rattle.log_reader.specs.EdgeRows.{Edge, RowIsTrue}
use Rattle.log_reader.specs.Holding.{GivesWay, HasFullTiles, IsBelow, IsEdgeRowOf, IsHeldAnswer, IsReaderOf, IsSourceOf, IsTileHash, IsTreeFile, IsTrueWay, ReadsTrue, row_width, true_row}
use Rattle.log_reader.specs.declared.fault.ReadFault.{ReadFault}
use Rattle.log_reader.specs.Verified.{Verifies}
use Rattle.log_reader.specs.declared.verify.FullFile.TheVariants as full
use Rattle.log_reader.specs.Ways.{Reader, row_of_way}
use Rattle.log_reader.proofs.RowLists.{items_of}
use Rattle.log_reader.proofs.Truths.{true_hashes}

-- ---- sources

module _ (digest : List ℕ → List ℕ) (entries : List (List ℕ)) (old new : Path → Option (List ℕ) → Type 0)
    (stays : StaysWithin old new) where
  pub way_later : (path : Path) → GivesWay digest entries old path → GivesWay digest entries new path
  way_later path h = record { partial = h.partial; full = λ answer may. h.full answer (stays.stays _ answer may) }

  held_later : (path : Path) (answer : Option (List ℕ)) → IsHeldAnswer digest entries old path answer →
      IsHeldAnswer digest entries new path answer
  held_later path (Some bytes) h = h
  held_later path None h = way_later path h

  -- the source still has the files later
  pub source_later : IsSourceOf digest entries old → IsSourceOf digest entries new
  source_later s = record {
    short = s.short;
    files = λ path file answer may. held_later path answer (s.files path file answer (stays.stays path answer may));
  }

  -- the source still has the full tiles later
  pub tiles_later : HasFullTiles digest entries old → HasFullTiles digest entries new
  tiles_later s = record {
    tiles = λ level index low fits answer may.
        s.tiles level index low fits answer (stays.stays (Tile level index 256) answer may);
  }

-- a true read, and a consequence of its claim
pub reads_more : {T : Type 0} (r : Result T ReadFault) (P Q : T → Type 0) → ((x : T) → P x → Q x) → ReadsTrue r P →
    ReadsTrue r Q
reads_more (Ok x) P Q f p = f x p
reads_more (Err fault) P Q f p = p

-- ---- files of a tree

pub full_tile : (n level index : ℕ) → level ≤ 7 → (index + 1) * 256 ^ (level + 1) ≤ n → IsTreeFile n (Tile level index 256)
full_tile n level index low fits = (low, inl (record { fits = fits; width_is = refl }))

pub edge_tile_file : (n level : ℕ) → level ≤ 7 → 0 < width_of n level →
    IsTreeFile n (Tile level (edge_index_of n level) (width_of n level))
edge_tile_file n level low some = (low, inr (record { index_is = refl; width_is = refl; some = some }))

-- a tile before that of the edge is full
pub full_fits : (n level index : ℕ) → index < edge_index_of n level → (index + 1) * 256 ^ (level + 1) ≤ n
full_fits n level index full =
    let c = 256 ^ (level + 1) in
    let most : (index + 1) * c ≤ n / c * c = mul-le _ _ _ _ (omega (arith, full)) (omega arith) in
    omega (arith, most, div-mul-le_self n c)

-- the reader after it went to the tile above a full one
pub is_below : (reader : Reader) (level index end size : ℕ) → level ≤ 7 → reader.level ≡ level + 1 →
    reader.index ≡ index / 256 → end ≡ edge_index_of size level → reader.edge.size ≡ size → index < end →
    IsBelow reader level index
is_below reader level index end size low at above end_is same lt = record {
  low = low;
  level_is = at;
  index_is = above;
  full = subst (λ m. index < edge_index_of m level) (sym same) (subst (λ e. index < e) end_is lt);
}

-- ---- the widths of rows

pub width_at_edge : (n level : ℕ) → row_width n level (edge_index_of n level) ≡ width_of n level
width_at_edge n level = let whole = hashes_of n level in omega arith

pub width_full : (n level index : ℕ) → index < edge_index_of n level → row_width n level index ≡ 256
width_full n level index full = let whole = hashes_of n level in omega arith

-- ---- rows

module _ (digest : List ℕ → List ℕ) (hash : IsDigest digest) (entries : List (List ℕ)) where
  abbrev n : ℕ
  n = length entries

  true_is_row : (level index width : ℕ) →
      IsRow width (tile_bytes digest entries level index width) (level_row digest entries level (256 * index) width)
  true_is_row level index width =
      let h = true_hashes digest hash entries level (256 * index) width in
      record { count = h.count; sizes = h.sizes; text = refl }

  -- the true bytes have only the true row
  pub row_is_true : (level index width : ℕ) (bytes : List ℕ) (row : List (List ℕ)) →
      bytes ≡ tile_bytes digest entries level index width → IsRow width bytes row →
      row ≡ level_row digest entries level (256 * index) width
  row_is_true level index width bytes row is r =
      let t = true_is_row level index width in
      row_one row (level_row digest entries level (256 * index) width) r.sizes t.sizes (r.count ∙ sym t.count) (sym r.text ∙ is)

  pub true_bytes_are_row : (level index width : ℕ) (bytes : List ℕ) → bytes ≡ tile_bytes digest entries level index width →
      IsRow width bytes (level_row digest entries level (256 * index) width)
  true_bytes_are_row level index width bytes is =
      subst (λ b. IsRow width b (level_row digest entries level (256 * index) width)) (sym is) (true_is_row level index width)

  -- ---- full tiles

  module _ (may : Path → Option (List ℕ) → Type 0) (s : HasFullTiles digest entries may) (level index : ℕ) (h : List ℕ)
      (t : IsTileHash digest entries level index h) where
    pub tile_given : (bytes : List ℕ) → may (Tile level index 256) (Some bytes) → bytes ≡ tile_bytes digest entries level index 256
    tile_given bytes m =
        let same : Some bytes ≡ Some (tile_bytes digest entries level index 256) =
        s.tiles level index t.low t.fits (Some bytes) m in cc

    pub tile_there : may (Tile level index 256) None → ⊥
    tile_there m =
        let same : None ≡ Some (tile_bytes digest entries level index 256) = s.tiles level index t.low t.fits None m in absurd cc

  -- the true row of a full tile folds to its hash
  pub full_folds : (level index : ℕ) (h : List ℕ) → IsTileHash digest entries level index h →
      fold_of digest (level_row digest entries level (256 * index) 256) ≡ h
  full_folds level index h t =
      let c = 256 ^ (level + 1) in
      let end : (256 * index + 256) * 256 ^ level ≡ (index + 1) * c = tile_end level index in
      let within : (256 * index + 256) * 256 ^ level ≤ n = omega (arith, end, t.fits) in
      let next : c ≡ 256 * 256 ^ level = level_next level in
      let start : 256 * index * 256 ^ level ≡ index * c = omega (arith, ap (λ m. index * m) next) in
      row_folds digest entries level (256 * index) 256 (omega arith) within
      ∙ ((λ i. mth digest (part (start i) (sym next i) entries)) ∙ sym t.hash_is)

  pub tile_verifies : (level index : ℕ) (h bytes : List ℕ) → IsTileHash digest entries level index h →
      bytes ≡ tile_bytes digest entries level index 256 →
      Verifies digest full.Tile h bytes (level_row digest entries level (256 * index) 256)
  tile_verifies level index h bytes t is = record {
    is_row = true_bytes_are_row level index 256 bytes is;
    folds = full_folds level index h t;
  }

  -- ---- edge tiles

  pub one_row : (width : ℕ) (bytes : List ℕ) (row other : List (List ℕ)) → IsRow width bytes row → IsRow width bytes other →
      row ≡ other
  one_row width bytes row other p q = row_one row other p.sizes q.sizes (p.count ∙ sym q.count) (sym p.text ∙ q.text)

  -- ---- the edge

  module _ (size level : ℕ) where
    abbrev at : ℕ
    at = edge_index_of size level

    abbrev wide : ℕ
    wide = width_of size level

    pub edge_row : (w : ℕ) → w ≡ wide → (text : List ℕ) → text ≡ tile_bytes digest entries level at wide →
        IsRow w text (level_row digest entries level (256 * at) wide)
    edge_row w same text is =
        subst (λ k. IsRow k text (level_row digest entries level (256 * at) wide)) (sym same)
        (true_bytes_are_row level at wide text is)

  -- rows that were read one after another
  pub rows_true : (size : ℕ) (vs : List (Vec (List ℕ) Global)) (edge : Edge) → edge.size ≡ size → edge.rows ≡ items_of vs →
      ((k : ℕ) → k < 8 → IsEdgeRowOf digest size k entries (get_or (items_of vs) k [])) → (level : ℕ) → level ≤ 7 →
      RowIsTrue digest edge entries level
  rows_true size vs edge size_is rows_are each level low =
      ap (λ (r : List (List (List ℕ))). get_or r level []) rows_are
      ∙ (each level (omega arith)
      ∙ ap (λ m. level_row digest entries level (256 * edge_index_of m level) (width_of m level)) (sym size_is))

  -- ---- a tile below a true row

  module _ (level index : ℕ) (low : level ≤ 7) (before : index < edge_index_of n level) (row : List (List ℕ))
      (is : row ≡ true_row digest entries (level + 1) (index / 256)) where
    abbrev c : ℕ
    c = 256 ^ (level + 1)

    abbrev w : ℕ
    w = row_width n (level + 1) (index / 256)

    pub within_row : index % 256 < length row
    within_row =
        let blocks = ranges c (256 * (index / 256)) w entries in
        let count : length row ≡ w = ap length is ∙ (length-map blocks (mth digest) ∙ length-ranges c (256 * (index / 256)) w entries) in
        omega (arith, count, before)

    pub hash_in_row : IsTileHash digest entries level index (get_or row (index % 256) [])
    hash_in_row =
        let first = 256 * (index / 256) in
        let j = index % 256 in
        let whole : first + j ≡ index = omega arith in
        let blocks = ranges c first w entries in
        let lt : j < w = omega (arith, before) in
        record {
          low = low;
          fits = full_fits n level index before;
          hash_is = ap (λ (l : List (List ℕ)). get_or l j []) is
              ∙ (get_or-map (mth digest) blocks j [] [] (omega (arith, lt, length-ranges c first w entries))
              ∙ (ap (mth digest) (get_or-ranges c (level_positive (level + 1)) first w j entries lt)
              ∙ ap (λ m. mth digest (part (m * c) c entries)) whole));
        }

  -- ---- readers

  module _ (reader : Reader) (r : IsReaderOf digest entries reader) where
    way_true : (level index : ℕ) (way : List (List (List ℕ))) → IsTrueWay digest entries level index way →
        row_of_way reader.edge level way ≡ true_row digest entries level index
    way_true level index [] w =
        r.edge level w.0
        ∙ (ap (λ m. level_row digest entries level (256 * edge_index_of m level) (width_of m level)) r.size_is
        ∙ ((λ i. level_row digest entries level (256 * edge_index_of n level) (sym (width_at_edge n level) i))
        ∙ ap (λ j. true_row digest entries level j) (sym w.1)))
    way_true level index (row ∷ above) w = w.1

    pub here_true : row_of_way reader.edge reader.level reader.way ≡ true_row digest entries reader.level reader.index
    here_true = way_true reader.level reader.index reader.way r.way

    -- the row of the tile to which the reader went
    pub there_true : (level index : ℕ) (row : List (List ℕ)) → row ≡ row_of_way reader.edge reader.level reader.way →
        (reader.level ≡ level) × (reader.index ≡ index) → row ≡ true_row digest entries level index
    there_true level index row is there = is ∙ (here_true ∙ (λ i. true_row digest entries (there.0 i) (there.1 i)))

    module _ (level index : ℕ) (b : IsBelow reader level index) where
      before_edge : index < edge_index_of n level
      before_edge = subst (λ m. index < edge_index_of m level) r.size_is b.full

      above_true : row_of_way reader.edge reader.level reader.way ≡ true_row digest entries (level + 1) (index / 256)
      above_true = here_true ∙ (λ i. true_row digest entries (b.level_is i) (b.index_is i))

      pub within_above : index % 256 < length (row_of_way reader.edge reader.level reader.way)
      within_above = within_row level index b.low before_edge (row_of_way reader.edge reader.level reader.way) above_true

      pub hash_below : IsTileHash digest entries level index
          (get_or (row_of_way reader.edge reader.level reader.way) (index % 256) [])
      hash_below = hash_in_row level index b.low before_edge (row_of_way reader.edge reader.level reader.way) above_true

      pub row_below : (row : List (List ℕ)) → row ≡ level_row digest entries level (256 * index) 256 →
          row ≡ true_row digest entries level index
      row_below row is = is ∙ (λ i. level_row digest entries level (256 * index) (sym (width_full n level index before_edge) i))

      pub went_down : (new : Reader) (row : List (List ℕ)) → row ≡ true_row digest entries level index →
          new ≡ record reader { level = reader.level - 1; index = index; way = row ∷ reader.way } →
          IsReaderOf digest entries new
      went_down new row is same =
          let lower : reader.level - 1 ≡ level = omega (arith, b.level_is) in
          let up : IsTrueWay digest entries (level + 1) (index / 256) reader.way =
          subst (λ i. IsTrueWay digest entries (level + 1) i reader.way) b.index_is
          (subst (λ l. IsTrueWay digest entries l reader.index reader.way) b.level_is r.way) in
          subst (IsReaderOf digest entries) (sym same) (record {
            size_is = r.size_is;
            root_is = r.root_is;
            edge = r.edge;
            way = subst (λ l. IsTrueWay digest entries l index (row ∷ reader.way)) (sym lower) (before_edge, is, up);
          })

    up_way : (level index : ℕ) (way : List (List (List ℕ))) → way ≢ [] → IsTrueWay digest entries level index way →
        IsTrueWay digest entries (level + 1) (index / 256) (drop 1 way)
    up_way level index [] some w = absurd (some refl)
    up_way level index (row ∷ above) some w = w.2

    pub went_up : (new : Reader) → reader.way ≢ [] →
        new ≡ record reader { level = reader.level + 1; index = reader.index / 256; way = drop 1 reader.way } →
        IsReaderOf digest entries new
    went_up new some same = subst (IsReaderOf digest entries) (sym same) (record {
      size_is = r.size_is;
      root_is = r.root_is;
      edge = r.edge;
      way = up_way reader.level reader.index reader.way some r.way;
    })

    pub went_to_edge : (level : ℕ) (new : Reader) → level ≤ 7 →
        new ≡ record reader { level = level; index = edge_index_of reader.edge.size level; way = [] } →
        IsReaderOf digest entries new
    went_to_edge level new low same = subst (IsReaderOf digest entries) (sym same) (record {
      size_is = r.size_is;
      root_is = r.root_is;
      edge = r.edge;
      way = (low, ap (λ m. edge_index_of m level) r.size_is);
    })
