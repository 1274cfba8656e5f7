-- The way down from the edge of the larger tree, step by step, and the files in memory for it.
use Rattle.std.proofs.Common.{◌≡◌, ◌≢◌, inl, inr, ℕ, ◌+◌, ◌*◌, ◌/◌, ◌%◌, ◌^◌, ◌<◌, ◌≤◌, List, [], ◌∷◌, ◌++◌, All, length, get_or}
use Rattle.std.proofs.Common.{Option, Some, None, refl, sym, ap, subst, ◌∙◌, arith}
use Rattle.std.specs.List.{AllByRecursion, Contains}
use Rattle.std.proofs.Math.Nat.{div-mul-le_self}
use Rattle.std.proofs.lemmas.Bool.{cases_lt}
use Rattle.std.proofs.lemmas.List.Elements.{All-append, All-cons, All-contains, All-from_recursion, All-nil, All-weaker, Contains-append_left, Contains-append_right}
use Rattle.std.proofs.lemmas.Nat.{le-div}
use Rattle.tlog_text.specs.Hash.{Is32Bytes}
use Rattle.tlog_shape.specs.Edge.{edge_index_of, width_of}
use Rattle.tlog_shape.proofs.Levels.{level_positive}
use Rattle.tlog_hash.specs.Rows.{level_row}
use Rattle.tlog_hash.specs.Tree.{joins}
use Rattle.tlog_tiles.specs.declared.paths.Path.{Path}
use Rattle.tlog_tiles.specs.declared.paths.Path.TheVariants.{Tile}
use Rattle.tlog_tiles.specs.Row.{row_text}
use Rattle.tlog_tiles.proofs.EdgeLemmas.{hashes_of}
use Rattle.mirror_model.specs.Strings.{IsDigest}
use Rattle.mirror_sources.specs.Honest.{true_bytes}
use Rattle.mirror_sources.specs.Recorded.{KeepsRecord}
use Rattle.mirror_sources.specs.Source.{File}
use Rattle.mirror_folders.specs.Shelf.{Put}
use Rattle.log_reader.specs.EdgeRows.{Edge, RowIsTrue, row_at}
use Rattle.log_reader.specs.Holding.{HasFullTiles}
use Rattle.log_reader.specs.Truth.{IsListClear}
use Rattle.log_reader.specs.Ways.{AreHashesOf, HasEdgeHashes, IsRowUnder, IsWay, way_strings}
use Rattle.log_reader.specs.declared.verify.FullFile.{FullFile}
use Rattle.log_reader.proofs.FalseFiles.{shown_below}
use Rattle.log_reader.proofs.Truths.{of_way, true_way}
use Rattle.copy_places.specs.EndTiles.{AnswersStay}
use Rattle.copy_places.specs.declared.end_tiles.EndTile.{EndTile}
use Rattle.mirror_folders.proofs.PartialFiles.{record_before}
use Rattle.copy_places.proofs.AskingEnds.{kept_later}
use Rattle.copy_places.specs.Nobodys.{IsFileOf, IsNobodys, IsReadInVain, IsRowNobodys, LacksRow}
use Rattle.copy_places.specs.ReadFiles.{IsRead}
use Rattle.copy_places.specs.WayFiles.{AreWayFiles, HasWanted, IsOnWay, IsWayFile}

-- ---- indices

-- the tile above the one in which the first entries end
pub index_up : (n level : ℕ) → edge_index_of n (level + 1) ≡ edge_index_of n level / 256
index_up n level = let whole = hashes_of n (level + 1) in omega (arith, whole)

-- the first entries end in a full tile, if not in that of the edge
pub before_edge : (first n level : ℕ) → first < n → edge_index_of first level ≢ edge_index_of n level →
    edge_index_of first level < edge_index_of n level
before_edge first n level less differ =
    let c = 256 ^ (level + 1) in
    let fewer : first / c ≤ n / c =
    le-div (first / c) n c (level_positive (level + 1)) (omega (arith, div-mul-le_self first c, less)) in
    elim (cases_lt (edge_index_of first level) (edge_index_of n level)) [
      | inl lt ↦ lt
      | inr ge ↦ absurd (differ (omega (arith, fewer, ge)))
    ]

pub no_index : (n : ℕ) → n < 2 ^ 64 → edge_index_of n 7 ≡ 0
no_index n small = omega (arith, small)

-- ---- hashes

pub hashes_there : (width : ℕ) (row : List (List ℕ)) → length row ≡ width → AllByRecursion Is32Bytes row → AreHashesOf width row
hashes_there width row count all = record {
  count = count;
  sizes = All-weaker Is32Bytes (λ (h : List ℕ). length h ≡ 32) (λ h is. is.are_32) row (All-from_recursion Is32Bytes row all);
}

-- ---- what nobody has

-- the shelf stayed as it was before the read
pub read_before : (old new : Option (List Put)) → KeepsRecord old new → (path : Path) (good : List ℕ → Type 0) →
    IsReadInVain new path good → IsReadInVain old path good
read_before old new kept path good h = record {
  found = h.found;
  read = record_before old new kept path h.found h.read;
  vain = h.vain;
}

module _ (digest : List ℕ → List ℕ) (old new : Option (List Put)) (kept : KeepsRecord old new) (x y : List EndTile)
    (stay : AnswersStay x y) (m n : ℕ) (count : m ≡ n) where
  -- nobody has it still. The shelf was read later
  pub nobodys_later : (kind : FullFile) (path : Path) (hash : List ℕ) → IsNobodys digest new x m kind path hash →
      IsNobodys digest old y n kind path hash
  nobodys_later kind path hash h = record {
    shelf = read_before old new kept path (IsFileOf digest kind hash) h.shelf;
    places = λ k lt. kept_later x y stay k path (IsFileOf digest kind hash) (h.places k (omega (arith, lt, count)));
  }

  pub row_nobodys_later : (level index : ℕ) (hash : List ℕ) → IsRowNobodys digest new x m level index hash →
      IsRowNobodys digest old y n level index hash
  row_nobodys_later level index hash h = record {
    tile = nobodys_later _ _ hash h.tile;
    bundle = λ zero. nobodys_later _ _ hash (h.bundle zero);
  }

-- the same for a wanted row
pub row_lacked_before : (digest : List ℕ → List ℕ) (old new : Option (List Put)) → KeepsRecord old new → (tiles : List EndTile)
    (m n : ℕ) → m ≡ n → (first : ℕ) (edge : Edge) → LacksRow digest new tiles m first edge → LacksRow digest old tiles n first edge
row_lacked_before digest old new kept tiles m n count first edge h = record {
  level = h.level;
  wanted = h.wanted;
  way = h.way;
  is_way = h.is_way;
  nobody = row_nobodys_later digest old new kept tiles tiles (record { more = omega arith; same = λ at lt d. refl }) m n count h.level
      (edge_index_of first h.level) _ h.nobody;
}

-- ---- files

lower_file : (level index : ℕ) (row : List (List ℕ)) (way : List (List (List ℕ))) (file : File) →
    IsWayFile (level + 1) (index / 256) way file → IsWayFile level index (row ∷ way) file
lower_file level index row way file is = inr is

-- without a way there are no files
no_way_files : (level index below at : ℕ) (way : List (List (List ℕ))) (files : List File) → way ≡ [] →
    All (IsWayFile level index way) files → All (IsWayFile below at []) files
no_way_files level index below at way files none all =
    subst (λ w. All (IsWayFile level index w) files) none all

module _ (digest : List ℕ → List ℕ) (first : ℕ) (edge : Edge) where
  -- the way begins at the edge
  pub way_begun : (row : List (List ℕ)) (files : List File) → first < 2 ^ 64 → edge.size < 2 ^ 64 → row ≡ row_at edge 7 →
      files ≡ [] → IsOnWay digest first edge 7 row files
  way_begun row files few small is none = record {
    way = [];
    is_way = (omega arith, no_index first few ∙ sym (no_index edge.size small));
    row_is = is;
    at_edge = λ same. refl;
    are = subst (All (IsWayFile 7 (edge_index_of first 7) [])) (sym none) (All-nil (IsWayFile 7 (edge_index_of first 7) []));
  }

  -- a step to the next tile of the edge
  pub way_at_edge : (level : ℕ) (above row : List (List ℕ)) (files : List File) → level ≤ 7 →
      edge_index_of first level ≡ edge_index_of edge.size level → row ≡ row_at edge level →
      IsOnWay digest first edge (level + 1) above files → IsOnWay digest first edge level row files
  way_at_edge level above row files low same is w =
      let up = index_up first level in
      let over = index_up edge.size level in
      record {
        way = [];
        is_way = (low, same);
        row_is = is;
        at_edge = λ e. refl;
        are = no_way_files (level + 1) (edge_index_of first (level + 1)) level (edge_index_of first level) w.way files
            (w.at_edge (omega (arith, same, up, over))) w.are;
      }

  -- a step to a full tile
  pub way_lower : (level : ℕ) (above row : List (List ℕ)) (old new : List File) →
      edge_index_of first level ≢ edge_index_of edge.size level → IsRowUnder digest above (edge_index_of first level % 256) row →
      new ≡ old ++ (Tile level (edge_index_of first level) 256, row_text row) ∷ [] → IsOnWay digest first edge (level + 1) above old →
      IsOnWay digest first edge level row new
  way_lower level above row old new differ under adds w =
      let index = edge_index_of first level in
      let up = index_up first level in record {
        way = row ∷ w.way;
        is_way = (
          subst (λ a. IsRowUnder digest a (index % 256) row) w.row_is under,
          subst (λ i. IsWay digest edge (level + 1) i w.way) up w.is_way,
        );
        row_is = refl;
        at_edge = λ same. absurd (differ same);
        are = subst (All (IsWayFile level index (row ∷ w.way))) (sym adds)
            (All-append (IsWayFile level index (row ∷ w.way)) old ((Tile level index 256, row_text row) ∷ [])
            (All-weaker (IsWayFile (level + 1) (index / 256) w.way) (IsWayFile level index (row ∷ w.way))
            (λ file is. lower_file level index row w.way file is) old
            (subst (λ i. All (IsWayFile (level + 1) i w.way) old) up w.are))
            (All-cons (IsWayFile level index (row ∷ w.way)) (Tile level index 256, row_text row) [] (inl refl)
            (All-nil (IsWayFile level index (row ∷ w.way)))));
      }

  pub way_files : (level : ℕ) (row : List (List ℕ)) (files : List File) → IsOnWay digest first edge level row files →
      AreWayFiles digest edge files
  way_files level row files w = record {
    level = level;
    index = edge_index_of first level;
    way = w.way;
    is_way = w.is_way;
    are = w.are;
  }

  -- the row above has the hash of the full tile
  pub hash_within : HasEdgeHashes edge → (level : ℕ) (above : List (List ℕ)) (files : List File) → first < edge.size →
      edge_index_of first level ≢ edge_index_of edge.size level → IsOnWay digest first edge (level + 1) above files →
      edge_index_of first level % 256 < length above
  hash_within hashes level above files less differ w =
      let index = edge_index_of first level in
      shown_below digest edge hashes level index above
      (record {
        way = w.way;
        is_way = subst (λ i. IsWay digest edge (level + 1) i w.way) (index_up first level) w.is_way;
        row_is = w.row_is;
      })
      (before_edge first edge.size level less differ)

  -- nobody has the next row
  pub row_lacking : HasEdgeHashes edge → (old new : Option (List Put)) → KeepsRecord old new → (tiles : List EndTile) (m n : ℕ) →
      m ≡ n → (level : ℕ) → level ≤ 6 → (above : List (List ℕ)) (files : List File) → first < edge.size →
      edge_index_of first level ≢ edge_index_of edge.size level →
      ((below : ℕ) × (below ≤ level) × (1 ≤ width_of first below)) → IsOnWay digest first edge (level + 1) above files →
      (edge_index_of first level % 256 < length above → IsRowNobodys digest new tiles m level (edge_index_of first level)
      (get_or above (edge_index_of first level % 256) [])) → LacksRow digest old tiles n first edge
  row_lacking hashes old new kept tiles m n count level low above files less differ inside w none =
      let index = edge_index_of first level in record {
        level = level;
        wanted = record { low = low; is_full = before_edge first edge.size level less differ; inside = inside };
        way = w.way;
        is_way = w.is_way;
        nobody = subst (λ a. IsRowNobodys digest old tiles n level index (get_or a (index % 256) [])) w.row_is
            (row_nobodys_later digest old new kept tiles tiles (record { more = omega arith; same = λ at lt d. refl }) m n count level
            index (get_or above (index % 256) []) (none (hash_within hashes level above files less differ w)));
      }

-- ---- the files are those of a log

module _ (digest : List ℕ → List ℕ) (hash : IsDigest digest) (entries : List (List ℕ)) (edge : Edge) (hashes : HasEdgeHashes edge)
    (small : edge.size < 2 ^ 64) where
  -- the file has the true bytes of its path
  abbrev IsTrueFile : File → Type 0
  IsTrueFile file = file.1 ≡ true_bytes digest entries file.0

  tile_true : (level index width : ℕ) (row : List (List ℕ)) (file : File) → file ≡ (Tile level index width, row_text row) →
      row ≡ level_row digest entries level (256 * index) width → IsTrueFile file
  tile_true level index width row file is true =
      ap (λ (f : File). f.1) is ∙ (ap row_text true ∙ ap (λ (f : File). true_bytes digest entries f.0) (sym is))

  module _ (whole : List (List (List ℕ))) (clear : IsListClear digest edge whole entries) where
    way_true : (level index : ℕ) (way : List (List (List ℕ))) → IsWay digest edge level index way →
        ((y : List ℕ) → Contains (way_strings digest way) y → Contains (way_strings digest whole) y) → (file : File) →
        IsWayFile level index way file → IsTrueFile file
    way_true level index [] w all file is = absurd is
    way_true level index (row ∷ above) w all file (inl is) =
        let t = true_way digest hash entries edge hashes small whole clear level index (row ∷ above) w
        (λ y m. of_way digest hash entries edge hashes small whole clear y (all y m)) in
        tile_true level index 256 row file is
        (t.is ∙ ap (λ n. level_row digest entries level (256 * index) n) w.0.hashes.count)
    way_true level index (row ∷ above) w all file (inr is) =
        way_true (level + 1) (index / 256) above w.1
        (λ y m. all y (Contains-append_right (joins digest row) (way_strings digest above) y m)) file is

    -- the rows of the edge are true
    pub edge_true : (level : ℕ) → level ≤ 7 → RowIsTrue digest edge entries level
    edge_true level low =
        let index = edge_index_of edge.size level in
        let t = true_way digest hash entries edge hashes small whole clear level index [] (low, refl) (λ y m. let lt = m.1 in absurd (omega (arith, lt))) in
        t.is ∙ ap (λ n. level_row digest entries level (256 * index) n) (hashes level low).count

    given : (files : List File) → All IsTrueFile files → (path : Path) (answer : Option (List ℕ)) → IsRead files path answer →
        answer ≡ Some (true_bytes digest entries path)
    given files all path None read = absurd read
    given files all path (Some bytes) read = ap Some (All-contains IsTrueFile files (path, bytes) all read)

    -- the full tiles that were read are those of the log
    pub tiles_of_log : (level index : ℕ) → IsWay digest edge level index whole → (files : List File) →
        All (IsWayFile level index whole) files → HasFullTiles digest entries (IsRead files)
    tiles_of_log level index w files all = record {
      tiles = λ l i low fits answer read.
          given files
          (All-weaker (IsWayFile level index whole) IsTrueFile (λ file is. way_true level index whole w (λ y m. m) file is) files all)
          (Tile l i 256) answer read;
    }

-- ---- the files that a proof wants

-- no tile that the proof wants is above the greatest level
pub wanted_begun : (first n : ℕ) (files : List File) → HasWanted first n 7 files
wanted_begun first n files level from wanted = absurd (omega (arith, from, wanted.low))

-- the first entries end in the tile of the edge
pub wanted_at_edge : (first n level : ℕ) (files : List File) → edge_index_of first level ≡ edge_index_of n level →
    HasWanted first n (level + 1) files → HasWanted first n level files
wanted_at_edge first n level files same has l from wanted =
    elim (cases_lt level l) [
      | inl above ↦ has l (omega (arith, above)) wanted
      | inr upto ↦
          let here : l ≡ level = omega (arith, from, upto) in
          absurd (omega (arith, wanted.is_full, same, ap (λ k. edge_index_of first k) here, ap (λ k. edge_index_of n k) here))
    ]

-- the tile of the level was added
pub wanted_added : (first n level : ℕ) (bytes : List ℕ) (old new : List File) →
    new ≡ old ++ (Tile level (edge_index_of first level) 256, bytes) ∷ [] → HasWanted first n (level + 1) old →
    HasWanted first n level new
wanted_added first n level bytes old new adds has l from wanted =
    let tile : ℕ → Path = λ k. Tile k (edge_index_of first k) 256 in
    let last : File = (tile level, bytes) in
    elim (cases_lt level l) [
      | inl above ↦
          let there = has l (omega (arith, above)) wanted in
          record {
            bytes = there.bytes;
            listed = subst (λ (fs : List File). Contains fs (tile l, there.bytes)) (sym adds)
                (Contains-append_left old (last ∷ []) (tile l, there.bytes) there.listed);
          }
      | inr upto ↦
          let here : level ≡ l = omega (arith, from, upto) in
          record {
            bytes = bytes;
            listed = subst (λ (fs : List File). Contains fs (tile l, bytes)) (sym adds)
                (subst (λ k. Contains (old ++ last ∷ []) (tile k, bytes)) here
                (Contains-append_right old (last ∷ []) last (0, omega arith, refl)));
          }
    ]

-- the first entries end where the tile of the level begins: no lower one is wanted
pub wanted_no_lower : (first n level : ℕ) (files : List File) → ((below : ℕ) → below ≤ level → width_of first below ≡ 0) →
    HasWanted first n (level + 1) files → HasWanted first n 0 files
wanted_no_lower first n level files none has l from wanted =
    elim (cases_lt level l) [
      | inl above ↦ has l (omega (arith, above)) wanted
      | inr upto ↦
          let some = wanted.inside.2 in
          absurd (omega (arith, some, none wanted.inside.0 (omega (arith, wanted.inside.1, upto))))
    ]
