-- Items of true bytes, and rounds of such items.
use Rattle.std.proofs.Common.{min, ◌<◌, zero, suc, ◌≡◌, ℕ, ◌+◌, ◌-◌, ◌*◌, ◌/◌, ◌^◌, ◌≤◌, List, [], ◌∷◌, ◌++◌, length}
use Rattle.std.proofs.Common.{map, take, drop, Bool, true, false, cond, nat_eq, sym, refl, ap, ◌∙◌, subst, inl, inr}
use Rattle.std.proofs.Common.{arith}
use Rattle.std.specs.Prelude.{not, if◌then◌else◌}
use Rattle.std.specs.List.{Contains, AllByRecursion, filter}
use Rattle.std.proofs.lemmas.List.{drop-take, take-take, map-append}
use Rattle.std.proofs.lemmas.List.Elements.{All-from_recursion, filter-append}
use Rattle.std.proofs.lemmas.Nat.{div-mul-add}
use Rattle.std.proofs.lemmas.Bool.{cases_lt}
use Rattle.std.proofs.Math.Nat.{pow-succ', div-mul-le_self}
use Rattle.tlog_shape.specs.Edge.{width_of, edge_index_of}
use Rattle.tlog_hash.specs.Tree.{tree_of, mth, strings, joins}
use Rattle.tlog_hash.specs.Rows.{part, ranges, level_row}
use Rattle.tlog_hash.proofs.Trees.{length-mth}
use Rattle.tlog_tiles.specs.declared.paths.Path.{Path}
use Rattle.tlog_tiles.specs.declared.paths.Path.TheVariants.{Checkpoint, Tile, Entries}
use Rattle.tlog_tiles.specs.Bundle.{bundle_text}
use Rattle.tlog_tiles.specs.Row.{IsRow, row_text}
use Rattle.tlog_tiles.specs.Edge.{edge_of, edge_at, edge_below}
use Rattle.tlog_tiles.specs.Tiles.{tile_bytes, bundle_bytes, IsWithin}
use Rattle.tlog_tiles.proofs.RowLemmas.{length-row_text}
use Rattle.tlog_tiles.proofs.TileLemmas.{served_is_read}
use Rattle.mirror_model.specs.Edge.{edge_levels, edge_row, edge_rows, edge_root, edge_strings}
use Rattle.mirror_model.specs.Front.{IsFront}
use Rattle.mirror_model.specs.Item.{row_of}
use Rattle.mirror_model.specs.Strings.{IsDigest}
use Rattle.mirror_model.specs.TrueLaws.{TrueTilesAreGood, TrueBundlesAreGood, TrueEdgesLeadToRoot}
use Rattle.mirror_model.specs.TrueLaws.{EdgeHasEachPartialTile, FrontIsWithin}
use Rattle.mirror_model.specs.TrueLaws.{TrueStringsAreOfTree, FrontIsWidest, PrefixesServeSame}
use Rattle.mirror_model.proofs.StringSets.{HoldsAll, holds_from_held}
use Rattle.mirror_model.proofs.ItemBytes.{row_is_one, bundle_is_one}
use Rattle.mirror_model.proofs.EdgeRoots.{edge_rows_wide, edge_root_is}
use Rattle.mirror_model.proofs.EdgeStrings.{full_or_edge}
use Rattle.mirror_model.proofs.NodeBlocks.{node_inside}
use Rattle.tlog_hash.proofs.NodeStrings.{string_of_node}
use Rattle.mirror_model.proofs.TreeLaws.{full_row_joins, bundle_strings}
use Rattle.mirror_model.proofs.Fronts.{front_node, front_unheld}
use Rattle.node_store.specs.Strings.{Strings}
use Rattle.tlog_shape.proofs.Levels.{level_mono}

-- ---- tiles and bundles

row_good : (width : ℕ) (bytes : List ℕ) (row : List (List ℕ)) → IsRow width bytes row → length bytes ≡ 32 * width
row_good width bytes row r = ap length r.text ∙ length-row_text row r.sizes ∙ ap (λ n. 32 * n) r.count

pub tiles_are_true : TrueTilesAreGood
tiles_are_true digest hash entries short level index width is_width =
    let bytes = tile_bytes digest entries level index width in
    let r = (served_is_read digest hash entries short).tile level index width in
    record {
      good = record {
        is_width =
            is_width;
        length_is = row_good width bytes (level_row digest entries level (256 * index) width) r;
      };
      strings_are =
          ap (joins digest) (sym (row_is_one width bytes (level_row digest entries level (256 * index) width) r));
    }

pub bundles_are_true : TrueBundlesAreGood
bundles_are_true digest hash entries short index width within =
    let b = (served_is_read digest hash entries short).bundle index width within in
    record {
      good = record {
        is_width =
            record { some = within.some; most = within.upto };
        entries =
            part (256 * index) width entries;
        is_bundle = b;
      };
      strings_are =
          ap (strings digest)
          (sym (bundle_is_one width (bundle_bytes entries index width) (part (256 * index) width entries) b));
    }

-- ---- the edge

module _ (digest : List ℕ → List ℕ) (hash : IsDigest digest) where
  tree_hashes : (lists : List (List (List ℕ))) → AllByRecursion (λ h. length h ≡ 32) (map (mth digest) lists)
  tree_hashes [] = tt
  tree_hashes (es ∷ lists) = (length-mth digest hash es, tree_hashes lists)

  level_is_row : (entries : List (List ℕ)) (level first width : ℕ) →
      IsRow (length (level_row digest entries level first width))
      (row_text (level_row digest entries level first width)) (level_row digest entries level first width)
  level_is_row entries level first width =
      record {
        count =
            refl;
        sizes =
            All-from_recursion (λ h. length h ≡ 32) _ (tree_hashes (ranges (256 ^ level) first width entries));
        text = refl;
      }

  edge_row_is : (entries : List (List ℕ)) (level : ℕ) →
      IsRow (length (edge_row digest entries level)) (row_text (edge_row digest entries level))
      (edge_row digest entries level)
  edge_row_is entries level =
      level_is_row entries level (256 * edge_index_of (length entries) level) (width_of (length entries) level)

  read_back : (entries : List (List ℕ)) (levels : List ℕ) →
      map row_of (map row_text (map (edge_row digest entries) levels)) ≡ map (edge_row digest entries) levels
  read_back entries [] = refl
  read_back entries (level ∷ levels) =
      let row = edge_row digest entries level in
      λ i. sym (row_is_one (length row) (row_text row) row (edge_row_is entries level)) i ∷ read_back entries levels i

  byte_lengths : (entries : List (List ℕ)) (levels : List ℕ) →
      map length (map row_text (map (edge_row digest entries) levels))
      ≡ map (λ width. 32 * width) (map length (map (edge_row digest entries) levels))
  byte_lengths entries [] = refl
  byte_lengths entries (level ∷ levels) =
      let row = edge_row digest entries level in
      λ i. length-row_text row (edge_row_is entries level).sizes i ∷ byte_lengths entries levels i

pub edges_are_true : TrueEdgesLeadToRoot
edges_are_true digest hash entries small =
    let back = read_back digest hash entries (edge_levels (length entries)) in
    record {
      has_edge = record {
        widths = byte_lengths digest hash entries (edge_levels (length entries)) ∙
            ap (map (λ width. 32 * width)) (edge_rows_wide digest entries);
        root_is = ap (edge_root digest) back ∙ edge_root_is digest entries small;
      };
      strings_are = ap (edge_strings digest) back;
    }

-- the levels below a number
abbrev levels_below : ℕ → List ℕ
levels_below zero = []
levels_below (suc level) = levels_below level ++ level ∷ []

module _ (size : ℕ) where
  abbrev has_width : ℕ → Bool
  has_width level = not (nat_eq (width_of size level) 0)

  abbrev path_at : ℕ → Path
  path_at level = Tile level (edge_index_of size level) (width_of size level)

  one_level : (level : ℕ) → edge_at size level ≡ map path_at (filter has_width (level ∷ []))
  one_level level = at (nat_eq (width_of size level) 0)
    where
      at : (b : Bool) → (if b then [] else path_at level ∷ []) ≡ map path_at (cond (not b) (level ∷ []) [])
      at true = refl
      at false = refl

  paths_below : (levels : ℕ) → edge_below size levels ≡ map path_at (filter has_width (levels_below levels))
  paths_below zero = refl
  paths_below (suc level) =
      (λ i. paths_below level i ++ one_level level i)
      ∙ sym (map-append path_at (filter has_width (levels_below level)) (filter has_width (level ∷ [])))
      ∙ ap (map path_at) (sym (filter-append has_width (levels_below level) (level ∷ [])))

pub edge_is_of_paths : EdgeHasEachPartialTile
unfolding edge_of edge_levels
edge_is_of_paths size = paths_below size 8

-- the end of a full tile
pub tile_end : (level index : ℕ) → (256 * index + 256) * 256 ^ level ≡ (index + 1) * 256 ^ (level + 1)
tile_end level index =
    let one : level + 1 ≡ suc level = omega arith in
    let next : 256 ^ (level + 1) ≡ 256 * 256 ^ level = ap (λ m. 256 ^ m) one ∙ pow-succ' 256 level in
    omega arith ∙ ap (λ m. (index + 1) * m) (sym next)

-- ---- fronts

module _ (digest : List ℕ → List ℕ) (held : Strings) (entries : List (List ℕ)) (small : length entries ≤ 256 ^ 8)
    (edge : HoldsAll held (edge_strings digest (edge_rows digest entries))) where
  -- a tile of the front is full
  pub front_tile : (level index width : ℕ) → IsFront digest held entries (Tile level index width) →
      (width ≡ 256) × (level ≤ 7) × ((index + 1) * 256 ^ (level + 1) ≤ length entries)
  front_tile level index width f =
      let x = f.node in
      let t = f.path_is in
      let n = front_node digest held (tree_of entries) 0 x f.is in
      let inside = node_inside digest entries 0 x n in
      let low : level ≤ 7 = elim (cases_lt level 8) [
        | inl lt ↦ omega (arith, lt)
        | inr le ↦ absurd (let more = level_mono 8 level le in omega (arith, more, t.tile.above, inside.upto, small))
      ] in
      elim (full_or_edge digest entries level x (omega (arith, low)) t.tile.above t.tile.upto n) [
        | inr on_edge ↦ absurd (front_unheld digest held (tree_of entries) 0 x f.is (edge x.string on_edge))
        | inl full ↦ (
          t.width_is,
          low,
          subst (λ i. (i + 1) * 256 ^ (level + 1) ≤ length entries)
              (sym (t.tile.index_is ∙
              index_is full.index
              (256 ^ (level + 1)) x.start x.len full.inside.start_in full.inside.upto full.inside.some)) full.full,
        )
      ]
    where
      index_is : (i c start len : ℕ) → i * c ≤ start → start + len ≤ i * c + c → 1 ≤ len → start / c ≡ i
      index_is i c start len low high one =
          ap (λ m. m / c) (omega arith) ∙ div-mul-add i c (start - i * c) (omega arith)

  pub front_bundle : (index width : ℕ) → IsFront digest held entries (Entries index width) →
      (1 ≤ width) × (width ≤ 256) × (256 * index + width ≤ length entries)
  front_bundle index width f =
      let x = f.node in
      let b = f.path_is in
      let inside = node_inside digest entries 0 x (front_node digest held (tree_of entries) 0 x f.is) in
      let below : index * 256 ≤ x.start =
      subst (λ i. i * 256 ≤ x.start) (sym b.index_is) (div-mul-le_self x.start 256) in (
        omega (arith, b.width_is, below, inside.upto, inside.some),
        omega (arith, b.width_is),
        omega (arith, b.width_is, below, inside.upto, inside.some),
      )

  pub front_within : (path : Path) → IsFront digest held entries path → IsWithin (length entries) path
  front_within Checkpoint f = f.path_is
  front_within (Tile level index width) f =
      let t = front_tile level index width f in
      record {
        level_fits =
            t.1;
        some =
            omega (arith, t.0);
        upto =
            omega (arith, t.0);
        within =
            subst (λ w. (256 * index + w) * 256 ^ level ≤ length entries) (sym t.0)
            (subst (λ m. m ≤ length entries) (sym (tile_end level index)) t.2);
      }
  front_within (Entries index width) f =
      let b = front_bundle index width f in
      let one : (256 * index + width) * 256 ^ 0 ≡ 256 * index + width = omega arith in
      record { level_fits = omega arith; some = b.0; upto = b.1; within = omega (arith, one, b.2) }

pub front_is_within : FrontIsWithin
front_is_within digest held entries small edge path f =
    front_within digest held entries small (holds_from_held held _ edge) path f

-- ---- the first entries

part_same : (start len n : ℕ) (entries : List (List ℕ)) → start + len ≤ n →
    part start len (take n entries) ≡ part start len entries
part_same start len n entries fits =
    let m = n - start in
    let whole : n ≡ start + m = omega arith in
    ap (λ k. part start len (take k entries)) whole ∙ ap (take len) (drop-take start m entries) ∙
    take-take len m (drop start entries) (omega arith)

ranges_same : (b first count n : ℕ) (entries : List (List ℕ)) → (first + count) * b ≤ n →
    ranges b first count (take n entries) ≡ ranges b first count entries
ranges_same b first zero n entries fits = refl
ranges_same b first (suc count) n entries fits =
    let more : (first + suc count) * b ≡ (first * b + b) + count * b = omega arith in
    let same : (first + suc count) * b ≡ ((first + 1) + count) * b = omega arith in
    λ i. part_same (first * b) b n entries (omega (arith, more)) i
    ∷ ranges_same b (first + 1) count n entries (omega (arith, same)) i

pub prefixes_serve_same : PrefixesServeSame
prefixes_serve_same digest entries n within = record {
  tile = λ level index width w. ap (λ bs. row_text (map (mth digest) bs))
      (ranges_same (256 ^ level) (256 * index) width n entries w.within);
  bundle = λ index width w. (let one : (256 * index + width) * 256 ^ 0 ≡ 256 * index + width =
      omega arith in ap bundle_text (part_same (256 * index) width n entries (omega (arith, one, w.within))));
}

-- ---- strings of the tree only

pub true_strings_within : TrueStringsAreOfTree
true_strings_within digest entries Checkpoint within widest y c = absurd widest
true_strings_within digest entries (Tile level index width) within widest y c =
    let row : Contains (joins digest (level_row digest entries level (256 * index) 256)) y =
    subst (λ n. Contains (joins digest (level_row digest entries level (256 * index) n)) y) widest c in
    let fits : (index + 1) * 256 ^ (level + 1) ≤ length entries =
    subst (λ m. m ≤ length entries) (tile_end level index)
    (subst (λ w. (256 * index + w) * 256 ^ level ≤ length entries) widest within.within) in
    let n = (full_row_joins digest entries level index fits y).0 row in
    subst (Contains (strings digest entries)) n.string_is (string_of_node digest entries 0 n.node n.is)
true_strings_within digest entries (Entries index width) within widest y c =
    let one : (256 * index + width) * 256 ^ 0 ≡ 256 * index + width = omega arith in
    let below : 256 * index < length entries = omega (arith, one, within.within, within.some) in
    let some : Contains (strings digest (part (256 * index) (min 256 (length entries - 256 * index)) entries)) y =
    subst (λ w. Contains (strings digest (part (256 * index) w entries)) y) widest c in
    let n = (bundle_strings digest entries index below y).0 some in
    subst (Contains (strings digest entries)) n.string_is (string_of_node digest entries 0 n.node n.is)

pub front_is_widest : FrontIsWidest
front_is_widest digest held entries Checkpoint f = f.path_is
front_is_widest digest held entries (Tile level index width) f = f.path_is.width_is
front_is_widest digest held entries (Entries index width) f = f.path_is.width_is
