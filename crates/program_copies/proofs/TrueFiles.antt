-- Shown tiles and bundles are those of each list of entries of their size and root.
use Rattle.std.proofs.Common.{◌≡◌, ℕ, zero, suc, ◌+◌, ◌-◌, ◌*◌, ◌/◌, ◌^◌, ◌<◌, ◌≤◌, List, [], ◌∷◌, ◌++◌, length, take, drop, map}
use Rattle.std.proofs.Common.{refl, sym, ap, subst, ◌∙◌, inl, inr, arith}
use Rattle.std.specs.FinSet as set
use Rattle.std.proofs.lemmas.List.{length-map, length-take-le, map-append, take-append-drop, take_at}
use Rattle.std.proofs.lemmas.List.Elements.{All-take}
use Rattle.std.proofs.lemmas.List.Concat.{flat_map-append}
use Rattle.tlog_shape.specs.Edge.{edge_index_of, width_of}
use Rattle.tlog_hash.specs.Rows.{level_row, part, ranges}
use Rattle.tlog_hash.specs.Tree.{mth, strings}
use Rattle.tlog_hash.proofs.Folds.{length-ranges}
use Rattle.tlog_tiles.specs.Bundle.{bundle_text, entry_text, IsBundle}
use Rattle.tlog_tiles.specs.Cut.{HasEntries, IsFileCut}
use Rattle.tlog_tiles.specs.Row.{row_text}
use Rattle.tlog_tiles.specs.Tiles.{bundle_bytes, IsTileWithin, tile_bytes}
use Rattle.tlog_tiles.specs.declared.paths.Path.TheVariants.{Entries}
use Rattle.tlog_tiles.proofs.Cuts.{bundles_begin, cuts_are_first}
use Rattle.tlog_tiles.proofs.EdgeLemmas.{hashes_of}
use Rattle.node_store.specs.Strings.{NoClash}
use Rattle.mirror_model.specs.Strings.{IsDigest}
use Rattle.mirror_model.specs.TrueLaws.{AreShort}
use Rattle.log_reader.specs.EdgeRows.{Edge}
use Rattle.log_reader.specs.Holding.{row_width}
use Rattle.log_reader.specs.Truth.{IsTrueBundle, read_strings}
use Rattle.log_reader.specs.Ways.{HasEdgeHashes, IsShownBundle, IsWay, row_of_way}
use Rattle.log_reader.proofs.ShownBundles.{shown_bundles_are_true}
use Rattle.log_reader.proofs.TrueReads.{width_at_edge, width_full}
use Rattle.log_reader.proofs.Truths.{shown_rows_are_true}
use Rattle.program_copies.specs.GivenFiles.{bundle_strings, IsEdgeTo, IsShownPart, IsShownTile}
use Rattle.program_copies.proofs.Widths.{row_reaches, row_within}

-- ---- narrower and wider

ranges_cut : {A : Type 0} (b first k more count : ℕ) (xs : List A) → count ≡ k + more →
    ranges b first count xs ≡ ranges b first k xs ++ ranges b (first + k) more xs
ranges_cut b first zero more count xs e =
    let c : count ≡ more = omega (arith, e) in
    let f : first ≡ first + 0 = omega arith in
    λ i. ranges b (f i) (c i) xs
ranges_cut b first (suc k) more zero xs e = absurd (omega (arith, e))
ranges_cut b first (suc k) more (suc count) xs e =
    let f : (first + 1) + k ≡ first + suc k = omega arith in
    ap (λ l. part (first * b) b xs ∷ l)
    (ranges_cut b (first + 1) k more count xs (omega (arith, e))
    ∙ ap (λ j. ranges b (first + 1) k xs ++ ranges b j more xs) f)

-- the first hashes of a true row are those of the narrower one
row_taken : (digest : List ℕ → List ℕ) (entries : List (List ℕ)) (level first w wide : ℕ) → w ≤ wide →
    take w (level_row digest entries level first wide) ≡ level_row digest entries level first w
row_taken digest entries level first w wide le =
    let b = 256 ^ level in
    let more = ranges b (first + w) (wide - w) entries in
    let cut : ranges b first wide entries ≡ ranges b first w entries ++ more =
    ranges_cut b first w (wide - w) wide entries (omega arith) in
    let row : level_row digest entries level first wide
    ≡ level_row digest entries level first w ++ map (mth digest) more =
    ap (map (mth digest)) cut ∙ map-append (mth digest) (ranges b first w entries) more in
    let long : length (level_row digest entries level first w) ≡ w =
    length-map (ranges b first w entries) (mth digest) ∙ length-ranges b first w entries in
    ap (take w) row ∙ take_at (level_row digest entries level first w) (map (mth digest) more) w long

module _ (digest : List ℕ → List ℕ) (hash : IsDigest digest) (entries : List (List ℕ)) (short : AreShort entries) where
  abbrev n : ℕ
  n = length entries

  -- the bytes that are cut from a true bundle are those of the narrower one
  bundle_taken : (index w wide : ℕ) (body : List ℕ) → IsTileWithin (length entries) 0 index wide → w ≤ wide →
      IsFileCut (Entries index w) wide (bundle_bytes entries index wide) body → body ≡ bundle_bytes entries index w
  bundle_taken index w wide body within le cut =
      cuts_are_first.one (Entries index w) wide (bundle_bytes entries index wide) body (bundle_bytes entries index w) cut
      (bundles_begin digest hash entries short index w wide le within)

  -- ---- what is shown is true

  module _ (edge : Edge) (to : IsEdgeTo digest n (mth digest entries) edge) (small : n < 2 ^ 64) where
    little : edge.size < 2 ^ 64
    little = omega (arith, to.size_is, small)

    pub tile_is_true : (level index width : ℕ) (body : List ℕ) (is : IsShownTile digest edge level index width body) →
        NoClash digest (set.from_list (strings digest entries ++ read_strings digest edge is.shown.way)) →
        body ≡ tile_bytes digest entries level index width
    tile_is_true level index width body is clear =
        let way = is.shown.way in
        let row = row_of_way edge level way in
        let is_true : row ≡ level_row digest entries level (256 * index) (length row) =
        shown_rows_are_true digest hash edge to.hashes little level index way is.shown.is_way entries
        (record { size_is = sym to.size_is; root_is = sym to.leads; clear = clear }) in
        let long : width ≤ length row = subst (λ (r : List (List ℕ)). width ≤ length r) is.shown.row_is is.long in
        is.bytes_are
        ∙ (ap (λ (r : List (List ℕ)). row_text (take width r)) (is.shown.row_is ∙ is_true)
        ∙ ap row_text (row_taken digest entries level (256 * index) width (length row) long))

    bundle_is_true : (index : ℕ) (bundle : List ℕ) (shown : IsShownBundle digest edge index bundle) →
        NoClash digest (set.from_list (strings digest entries ++ bundle_strings digest edge index bundle shown)) →
        IsTrueBundle entries index bundle
    bundle_is_true index bundle (inl end) clear =
        (shown_bundles_are_true digest hash edge to.hashes little index bundle entries).0 end
        (record { size_is = sym to.size_is; root_is = sym to.leads; clear = clear })
    bundle_is_true index bundle (inr full) clear =
        (shown_bundles_are_true digest hash edge to.hashes little index bundle entries).1 full
        (record { size_is = sym to.size_is; root_is = sym to.leads; clear = clear })

    pub part_is_true : (index width : ℕ) (body : List ℕ) → IsTileWithin n 0 index width →
        (is : IsShownPart digest edge index width body) →
        NoClash digest (set.from_list (strings digest entries ++ bundle_strings digest edge index is.bundle is.shown)) →
        body ≡ bundle_bytes entries index width
    part_is_true index width body within is clear =
        let w = row_width n 0 index in
        let t = bundle_is_true index is.bundle is.shown clear in
        bundle_taken index width w body (row_within n 0 index width within) (row_reaches n 0 index width within)
        (subst (λ (b : List ℕ). IsFileCut (Entries index width) w b body) t.text
        (subst (λ m. IsFileCut (Entries index width) (row_width m 0 index) is.bundle body) to.size_is is.first))

-- ---- what is shown has its narrower ones

cut_there : (index w width : ℕ) (bundle : List ℕ) → HasEntries w bundle → width ≤ w →
    ((part : List ℕ) → IsFileCut (Entries index width) w bundle part → ⊥) → ⊥
cut_there index w width bundle (es, is) le none =
    let whole : take width es ++ drop width es ≡ es = take-append-drop width es in
    none (bundle_text (take width es)) (record {
      whole = (es, is);
      own = (
        take width es,
        record {
          count = length-take-le width es (omega (arith, is.count, le));
          fits = All-take (λ e. length e < 2 ^ 16) width es is.fits;
          text = refl;
        },
      );
      rest = bundle_text (drop width es);
      parts = is.text ∙ (ap bundle_text (sym whole) ∙ flat_map-append entry_text (take width es) (drop width es));
    })

module _ (digest : List ℕ → List ℕ) (edge : Edge) (hashes : HasEdgeHashes edge) where
  -- a shown row has only hashes of the tree
  row_upto : (level index : ℕ) (way : List (List (List ℕ))) → IsWay digest edge level index way →
      256 * index + length (row_of_way edge level way) ≤ edge.size / 256 ^ level
  row_upto level index [] w = omega (arith, w.1, hashes_of edge.size level, (hashes level w.0).count)
  row_upto level index (row ∷ above) w =
      omega (arith, row_upto (level + 1) (index / 256) above w.1, w.0.within, w.0.hashes.count, hashes_of edge.size level)

  -- a shown bundle has all entries of the tree at its index
  shown_whole : (index : ℕ) (bundle : List ℕ) → IsShownBundle digest edge index bundle →
      HasEntries (row_width edge.size 0 index) bundle
  shown_whole index bundle (inl end) =
      let leaves = end.has_leaves in
      let at : row_width edge.size 0 index ≡ width_of edge.size 0 =
      ap (row_width edge.size 0) end.index_is ∙ width_at_edge edge.size 0 in
      (leaves.entries, subst (λ w. IsBundle w bundle leaves.entries) (sym at) leaves.is_bundle)
  shown_whole index bundle (inr full) =
      let leaves = full.has_leaves in
      let upto = row_upto 1 (index / 256) full.shown.way full.shown.is_way in
      let before : index < edge_index_of edge.size 0 = omega (arith, upto, full.within, ap length full.shown.row_is) in
      (leaves.entries, subst (λ w. IsBundle w bundle leaves.entries) (sym (width_full edge.size 0 index before)) leaves.is_bundle)

  -- so it has its first entries
  pub shown_has : (index width wider : ℕ) (bundle file : List ℕ) → IsTileWithin edge.size 0 index width →
      IsShownBundle digest edge index bundle → wider ≡ row_width edge.size 0 index → file ≡ bundle →
      ((part : List ℕ) → IsFileCut (Entries index width) wider file part → ⊥) → ⊥
  shown_has index width wider bundle file within shown wide same none =
      let whole : HasEntries wider bundle = subst (λ w. HasEntries w bundle) (sym wide) (shown_whole index bundle shown) in
      cut_there index wider width file (subst (HasEntries wider) (sym same) whole)
      (omega (arith, wide, row_reaches edge.size 0 index width within)) none
