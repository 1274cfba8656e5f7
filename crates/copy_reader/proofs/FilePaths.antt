-- The paths in the order of a log are those of its files.
use Rattle.std.proofs.Common.{◌≡◌, inl, inr, ℕ, zero, suc, ◌+◌, ◌-◌, ◌*◌, ◌/◌, ◌^◌, ◌<◌, ◌≤◌, All, List, [], ◌∷◌, ◌++◌}
use Rattle.std.proofs.Common.{refl, sym, ap, subst, arith}
use Rattle.std.proofs.Math.Nat.{div-mul-le_self}
use Rattle.std.proofs.lemmas.List.Elements.{All-append, All-cons, All-head, All-nil, All-same, All-tail, All-weaker}
use Rattle.std.proofs.lemmas.Nat.{mul-le}
use Rattle.tlog_shape.specs.Edge.{IsFullTile, IsPartialTile, IsTile, edge_index_of, width_of}
use Rattle.tlog_tiles.specs.declared.paths.Path.{Path}
use Rattle.tlog_tiles.specs.declared.paths.Path.TheVariants.{Checkpoint, Tile, Entries}
use Rattle.tlog_tiles.proofs.EdgeLemmas.{hashes_of}
use Rattle.mirror_model.proofs.TrueItems.{tile_end}
use Rattle.copy_reader.specs.Answering.{IsTreeFile}
use Rattle.copy_reader.specs.Found.{FileRead, IsBelowEdge, paths_read}
use Rattle.copy_reader.specs.Order.{below_edge, bundle_of_width, each_order, edge_bundle, edge_file, edge_order, file_order, level_order, levels_order, tile_of_width, tile_order}

-- ---- lists

pub all_front : (P : Path → Type 0) (xs ys : List Path) → All P (xs ++ ys) → All P xs
all_front P [] ys h = All-nil P
all_front P (x ∷ xs) ys h = All-cons P x xs (All-head P x (xs ++ ys) h) (all_front P xs ys (All-tail P x (xs ++ ys) h))

pub all_back : (P : Path → Type 0) (xs ys : List Path) → All P (xs ++ ys) → All P ys
all_back P [] ys h = h
all_back P (x ∷ xs) ys h = all_back P xs ys (All-tail P x (xs ++ ys) h)

pub all_reads : (P : Path → Type 0) (reads : List FileRead) → All P (paths_read reads) → All (λ (r : FileRead). P r.path) reads
all_reads P [] h = All-nil (λ (r : FileRead). P r.path)
all_reads P (r ∷ rs) h =
    All-cons (λ (r : FileRead). P r.path) r rs (All-head P r.path (paths_read rs) h)
    (all_reads P rs (All-tail P r.path (paths_read rs) h))

each_all : (P : Path → Type 0) (order : ℕ → List Path) (first count : ℕ) →
    ((i : ℕ) → i < count → All P (order (first + i))) → All P (each_order order first count)
unfolding each_order
each_all P order first zero h = All-nil P
each_all P order first (suc count) h =
    All-append P (each_order order first count) (order (first + count))
    (each_all P order first count (λ i lt. h i (omega (arith, lt)))) (h count (omega arith))

-- ---- the files of a tree of n entries

module _ (n : ℕ) where
  -- a full tile, or a bundle
  abbrev pub IsLow : Path → Type 0
  IsLow Checkpoint = ⊥
  IsLow (Tile level index width) = (level ≤ 7) × IsFullTile n level index width
  IsLow (Entries index width) = IsTile n 0 index width

  -- a partial tile
  abbrev pub IsEdgeRow : Path → Type 0
  IsEdgeRow Checkpoint = ⊥
  IsEdgeRow (Tile level index width) = (level ≤ 7) × IsPartialTile n level index width
  IsEdgeRow (Entries index width) = ⊥

  low_file : (path : Path) → IsLow path → IsTreeFile n path
  low_file Checkpoint h = h
  low_file (Tile level index width) h = (h.0, inl h.1)
  low_file (Entries index width) h = h

  edge_row_file : (path : Path) → IsEdgeRow path → IsTreeFile n path
  edge_row_file Checkpoint h = h
  edge_row_file (Tile level index width) h = (h.0, inr h.1)
  edge_row_file (Entries index width) h = absurd h

  tile_low : (level index : ℕ) → level ≤ 7 → (index + 1) * 256 ^ (level + 1) ≤ n → All IsLow (tile_order level index)
  unfolding tile_order
  tile_low zero index low fits =
      let full : IsFullTile n 0 index 256 = record { fits = fits; width_is = refl } in
      All-cons IsLow (Entries index 256) (Tile 0 index 256 ∷ []) (inl full)
      (All-cons IsLow (Tile 0 index 256) [] (low, full) (All-nil IsLow))
  tile_low (suc level) index low fits =
      let c = 256 ^ (level + 1) in
      let up : suc level ≡ level + 1 = omega arith in
      let end : (256 * index + 256) * 256 ^ suc level ≡ (index + 1) * 256 ^ (suc level + 1) = tile_end (suc level) index in
      let most : (256 * index + 256) * c ≤ n = omega (arith, ap (λ l. (256 * index + 256) * 256 ^ l) up, end, fits) in
      All-cons IsLow (Tile (suc level) index 256) (each_order (tile_order level) (256 * index) 256)
      (low, record { fits = fits; width_is = refl })
      (each_all IsLow (tile_order level) (256 * index) 256
      (λ i lt.
      let less : (256 * index + i + 1) * c ≤ (256 * index + 256) * c =
      mul-le (256 * index + i + 1) c (256 * index + 256) c (omega (arith, lt)) (omega arith) in
      tile_low level (256 * index + i) (omega (arith, low)) (omega (arith, less, most))))

  level_low : (down : ℕ) → down < 7 → All IsLow (level_order n down)
  level_low down lt =
      let level = 7 - down in
      let below = level - 1 in
      let index = edge_index_of n level in
      let width = width_of n level in
      let b = 256 ^ level in
      let up : below + 1 ≡ level = omega (arith, lt) in
      let whole : 256 * index + width ≡ n / b = hashes_of n level in
      let all : n / b * b ≤ n = div-mul-le_self n b in
      each_all IsLow (tile_order below) (256 * index) width
      (λ i less.
      let most : (256 * index + i + 1) * b ≤ n / b * b =
      mul-le (256 * index + i + 1) b (n / b) b (omega (arith, less, whole)) (omega arith) in
      tile_low below (256 * index + i) (omega (arith, lt))
      (subst (λ l. (256 * index + i + 1) * 256 ^ l ≤ n) (sym up) (omega (arith, most, all))))

  bundle_low : (index width : ℕ) → index ≡ edge_index_of n 0 → width ≡ width_of n 0 → All IsLow (bundle_of_width index width)
  bundle_low index zero at wide = All-nil IsLow
  bundle_low index (suc width) at wide =
      All-cons IsLow (Entries index (suc width)) []
      (inr (record { index_is = at; width_is = wide; some = omega arith })) (All-nil IsLow)

  pub below_low : All IsLow (below_edge n)
  below_low =
      All-append IsLow (levels_order n 7) (edge_bundle n) (each_all IsLow (level_order n) 0 7 (λ i lt. level_low (0 + i) (omega (arith, lt))))
      (bundle_low (edge_index_of n 0) (width_of n 0) refl refl)

  row_of_width : (level index width : ℕ) → level ≤ 7 → index ≡ edge_index_of n level → width ≡ width_of n level →
      All IsEdgeRow (tile_of_width level index width)
  row_of_width level index zero low at wide = All-nil IsEdgeRow
  row_of_width level index (suc width) low at wide =
      All-cons IsEdgeRow (Tile level index (suc width)) []
      (low, record { index_is = at; width_is = wide; some = omega arith }) (All-nil IsEdgeRow)

  pub edge_rows : All IsEdgeRow (edge_order n 8)
  edge_rows =
      each_all IsEdgeRow (edge_file n) 0 8
      (λ i lt. row_of_width (0 + i) (edge_index_of n (0 + i)) (width_of n (0 + i)) (omega (arith, lt)) refl refl)

  pub log_files : All (IsTreeFile n) (file_order n)
  log_files =
      All-append (IsTreeFile n) (edge_order n 8) (below_edge n)
      (All-weaker IsEdgeRow (IsTreeFile n) edge_row_file (edge_order n 8) edge_rows)
      (All-weaker IsLow (IsTreeFile n) low_file (below_edge n) below_low)

  -- ---- the edge, and what is below it

  pub not_below : (path : Path) → IsEdgeRow path → IsBelowEdge path → ⊥
  not_below Checkpoint h b = b
  not_below (Tile level index width) h b = omega (arith, h.1.width_is, b)
  not_below (Entries index width) h b = h

-- the path that follows some paths
pub all_next : (P : Path → Type 0) (paths before rest : List Path) (path : Path) → paths ≡ before ++ path ∷ rest → All P paths → P path
all_next P paths before rest path is h =
    All-head P path rest (all_back P before (path ∷ rest) (All-same P (before ++ path ∷ rest) paths (sym is) h))

pub all_before : (P : Path → Type 0) (paths rest : List Path) (path : Path) (before : List FileRead) →
    paths ≡ paths_read before ++ path ∷ rest → All P paths → All (λ (r : FileRead). P r.path) before
all_before P paths rest path before is h =
    all_reads P before (all_front P (paths_read before) (path ∷ rest)
    (All-same P (paths_read before ++ path ∷ rest) paths (sym is) h))
