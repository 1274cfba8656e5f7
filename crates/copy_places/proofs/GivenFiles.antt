-- The files that places have are found.
use Rattle.std.proofs.Common.{◌≡◌, inl, inr, ℕ, ◌+◌, ◌*◌, ◌/◌, ◌%◌, ◌^◌, ◌<◌, ◌≤◌, List, [], length, get_or, map}
use Rattle.std.proofs.Common.{Option, Some, None, refl, sym, ap, subst, ◌∙◌, arith}
use Rattle.std.proofs.lemmas.Bool.{cases_lt}
use Rattle.std.proofs.lemmas.List.{get_or-map, take_all}
use Rattle.tlog_shape.specs.Edge.{edge_index_of, width_of}
use Rattle.tlog_shape.proofs.Levels.{level_positive}
use Rattle.tlog_hash.specs.Rows.{level_row, part, ranges}
use Rattle.tlog_hash.specs.Tree.{fold_of, leaf_hash, mth}
use Rattle.tlog_hash.proofs.Folds.{length-ranges}
use Rattle.tlog_hash.proofs.LeafRanges.{rows_of_leaves}
use Rattle.tlog_tiles.specs.Cut.{IsFileCut}
use Rattle.tlog_tiles.specs.declared.paths.Path.{Path}
use Rattle.tlog_tiles.specs.declared.paths.Path.TheVariants.{Tile, Entries}
use Rattle.tlog_tiles.specs.Tiles.{IsWithin, bundle_bytes, tile_bytes}
use Rattle.tlog_tiles.proofs.Cuts.{cuts_are_first}
use Rattle.tlog_tiles.proofs.RowLemmas.{length-row_text}
use Rattle.tlog_tiles.proofs.TileLemmas.{served_is_read}
use Rattle.mirror_model.specs.Forks.{Point}
use Rattle.mirror_model.specs.Strings.{IsDigest}
use Rattle.mirror_model.specs.TrueLaws.{AreShort}
use Rattle.mirror_model.proofs.RowLaws.{get_or-ranges}
use Rattle.mirror_folders.specs.Shelf.{Put}
use Rattle.log_reader.specs.EdgeRows.{Edge}
use Rattle.log_reader.specs.Holding.{GoesOn, IsTileHash}
use Rattle.log_reader.specs.Truth.{IsListClear}
use Rattle.log_reader.specs.Ways.{HasEdgeHashes, IsWay, row_of_way}
use Rattle.log_reader.specs.declared.verify.FullFile.TheVariants as full
use Rattle.log_reader.proofs.FalseFiles.{shown_below}
use Rattle.log_reader.proofs.TrueReads.{full_fits, full_folds, row_is_true, tile_verifies, true_bytes_are_row}
use Rattle.log_reader.proofs.Truths.{of_way, true_hashes, true_way}
use Rattle.copy_places.specs.AskedEnds.{IsKeptInVain, IsSaidInVain}
use Rattle.copy_places.specs.EndTiles.{IsKeptAnswer, said}
use Rattle.mirror_folders.specs.Partial.{IsFullCut}
use Rattle.copy_places.specs.FoundRows.{IsRowIn}
use Rattle.copy_places.specs.KeptRows.{IsCutOfSaid, IsKeptRow, IsOfSaid, LackMix}
use Rattle.copy_places.specs.Mixes.{given_at}
use Rattle.copy_places.specs.TrueAnswers.{IsRootOf}
use Rattle.copy_places.specs.declared.end_tiles.EndTile.{EndTile}
use Rattle.copy_places.specs.declared.place.PlaceAnswer.{PlaceAnswer}
use Rattle.copy_places.proofs.RowsGiven.{true_mix}
use Rattle.copy_places.specs.Forks.{HasPoint}
use Rattle.copy_places.specs.Nobodys.{AreFilesGiven, BeginsTrue, GivenFilesAreHad, GivesTruePart, IsFileOf, IsTrueOfPart, IsWanted, LacksRow, NoEdge, NoLog, NoRow}
use Rattle.copy_places.proofs.WayFiles.{index_up}

module _ (digest : List ℕ → List ℕ) (hash : IsDigest digest) (entries : List (List ℕ)) where
  abbrev n : ℕ
  n = length entries

  -- ---- the edge

  module _ (tiles : List EndTile) (k level : ℕ) where
    abbrev index : ℕ
    index = edge_index_of n level

    abbrev width : ℕ
    width = width_of n level

    abbrev bytes : List ℕ
    bytes = tile_bytes digest entries level index width

    abbrev true_row : List (List ℕ)
    true_row = level_row digest entries level (256 * index) width

    long : length bytes ≡ 32 * width
    long =
        let h = true_hashes digest hash entries level (256 * index) width in
        length-row_text true_row h.sizes ∙ ap (λ m. 32 * m) h.count

    as_cut : (whole : List ℕ) → GoesOn (Tile level index width) bytes whole → IsFileCut (Tile level index width) 256 whole bytes
    as_cut whole goes = record { whole = goes.whole; own = long; rest = goes.rest; parts = goes.bytes_are }

    by_cut : (whole : List ℕ) (found : Option (List ℕ)) → IsFullCut (Tile level index width) whole found → GoesOn (Tile level index width) bytes whole →
        found ≡ Some bytes
    by_cut whole None none goes = absurd (none bytes (as_cut whole goes))
    by_cut whole (Some part) is goes =
        ap (λ (b : List ℕ). Some b) (cuts_are_first.one (Tile level index width) 256 whole part bytes is (as_cut whole goes))

    by_full : (s : Option (Option (List ℕ))) (found : Option (List ℕ)) → IsCutOfSaid tiles k (Tile level index width) s found →
        BeginsTrue digest entries tiles (Tile level index width) s → found ≡ Some bytes
    by_full None found is true = absurd true
    by_full (Some None) found is true = absurd true
    by_full (Some (Some whole)) found is true = by_cut whole found is true

    by_said : (s : Option (Option (List ℕ))) (found : Option (List ℕ)) → IsOfSaid tiles k (Tile level index width) s found →
        IsTrueOfPart digest entries tiles k (Tile level index width) s → found ≡ Some bytes
    by_said None found is true = absurd true
    by_said (Some None) found is true = by_full (said is.answer) found is.gives (true is.answer is.kept)
    by_said (Some (Some given)) found is true = is ∙ ap (λ (b : List ℕ). Some b) true

    by_row : (row : Option (List (List ℕ))) → IsRowIn width (Some bytes) row → row ≡ Some true_row
    by_row None none = absurd (none true_row (true_bytes_are_row digest hash entries level index width bytes refl))
    by_row (Some row) is =
        ap (λ (r : List (List ℕ)). Some r) (row_is_true digest hash entries level index width bytes row refl is)

    -- a level without hashes
    empty_row : width ≡ 0 → (row : Option (List (List ℕ))) → row ≡ Some [] → row ≡ Some true_row
    empty_row none row is =
        is ∙ ap (λ w. Some (level_row digest entries level (256 * index) w)) (sym none)

    row_given : (row : Option (List (List ℕ))) → IsKeptRow tiles k n level row →
        (1 ≤ width → GivesTruePart digest entries tiles k (Tile level index width)) → row ≡ Some true_row
    row_given row h true = elim (cases_lt 0 width) [
      | inl some ↦
          let of = h.some some in
          let found = by_said (said of.tile.answer) of.found of.tile.gives (true some of.tile.answer of.tile.kept) in
          by_row row (subst (λ o. IsRowIn width o row) found of.is_row)
      | inr none ↦ let zero : width ≡ 0 = omega (arith, none) in empty_row zero row (h.empty zero)
    ]

  edge_there : AreShort entries → (large : Point) → HasPoint digest large entries → n < 2 ^ 64 → (puts : Option (List Put))
      (tiles : List EndTile) (count first : ℕ) →
      ((i j : ℕ) → i < count → j < count → LackMix digest large.size large.root tiles i j) →
      AreFilesGiven digest entries tiles count first → ⊥
  edge_there short large point small puts tiles count first none given =
      let e = given.edge in
      let lack : LackMix digest n large.root tiles e.one e.other =
      subst (λ m. LackMix digest m large.root tiles e.one e.other) (sym point.size_is) (none e.one e.other e.one_listed e.other_listed) in
      let root : IsRootOf digest entries n large.root = record {
        short = short;
        upto = omega arith;
        root_is = sym point.root_is ∙ ap (mth digest) (sym (take_all n entries (omega arith)));
      } in
      true_mix digest entries n large.root small lack.first lack.second
      (λ level low. elim (cases_lt 0 (width_of n level)) [
        | inl some ↦ elim (e.each level low some) [
          | inl one ↦ inl (row_given tiles e.one level (given_at lack.first level) (lack.first_are.each level low) (λ s. one))
          | inr other ↦ inr (row_given tiles e.other level (given_at lack.second level) (lack.second_are.each level low) (λ s. other))
        ]
        | inr zero ↦ inl (row_given tiles e.one level (given_at lack.first level) (lack.first_are.each level low)
            (λ s. absurd (omega (arith, zero, s))))
      ])
      root lack.none

  -- ---- a full tile

  -- a true file is no answer in vain
  not_in_vain : (tiles : List EndTile) (k : ℕ) (path : Path) (good : List ℕ → Type 0) (bytes : List ℕ) → good bytes →
      ((answer : PlaceAnswer) → IsKeptAnswer tiles k path answer → said answer ≡ Some (Some bytes)) → IsKeptInVain tiles k path good → ⊥
  not_in_vain tiles k path good bytes is true h =
      let said_is : said h.answer ≡ Some (Some bytes) = true h.answer h.kept in
      let vain : IsSaidInVain (Some (Some bytes)) good = subst (λ s. IsSaidInVain s good) said_is h.vain in
      vain is

  module _ (short : AreShort entries) (level index : ℕ) (h : List ℕ) (t : IsTileHash digest entries level index h) where
    tile_good : IsFileOf digest full.Tile h (tile_bytes digest entries level index 256)
    tile_good = (
      level_row digest entries level (256 * index) 256,
      tile_verifies digest hash entries level index h (tile_bytes digest entries level index 256) t refl,
    )

    bundle_good : level ≡ 0 → IsFileOf digest full.Bundle h (bundle_bytes entries index 256)
    bundle_good zero =
        let t0 : IsTileHash digest entries 0 index h = subst (λ l. IsTileHash digest entries l index h) zero t in
        let fits : (index + 1) * 256 ≤ n = t0.fits in
        let within : IsWithin n (Entries index 256) = record {
          level_fits = omega arith;
          some = omega arith;
          upto = omega arith;
          within = (let most : (256 * index + 256) * 1 ≤ n = omega (arith, fits) in most);
        } in
        let row = map (leaf_hash digest) (part (256 * index) 256 entries) in
        let same : level_row digest entries 0 (256 * index) 256 ≡ row =
        rows_of_leaves digest 256 (256 * index) entries (omega (arith, fits)) in (
          row,
          record {
            is_row = record {
              entries = part (256 * index) 256 entries;
              is_bundle = (served_is_read digest hash entries short).bundle index 256 within;
              row_is = refl;
            };
            folds = ap (fold_of digest) (sym same) ∙ full_folds digest hash entries 0 index h t0;
          },
        )

  row_there : AreShort entries → (puts : Option (List Put)) (tiles : List EndTile) (count first : ℕ) (edge : Edge) →
      edge.size ≡ n → edge.size < 2 ^ 64 → HasEdgeHashes edge → (l : LacksRow digest puts tiles count first edge) →
      IsListClear digest edge l.way entries → AreFilesGiven digest entries tiles count first → ⊥
  row_there short puts tiles count first edge size_is small hashes l clear given =
      let level = l.level in
      let index = edge_index_of first level in
      let c = 256 ^ (level + 1) in
      let above = row_of_way edge (level + 1) l.way in
      let up_is : edge_index_of first (level + 1) ≡ index / 256 = index_up first level in
      let is_way : IsWay digest edge (level + 1) (index / 256) l.way =
      subst (λ i. IsWay digest edge (level + 1) i l.way) up_is l.is_way in
      let up = true_way digest hash entries edge hashes small l.way clear (level + 1) (index / 256) l.way is_way
      (of_way digest hash entries edge hashes small l.way clear) in
      let lt = shown_below digest edge hashes level index above (record { way = l.way; is_way = is_way; row_is = refl }) l.wanted.is_full in
      let from = 256 * (index / 256) in
      let j = index % 256 in
      let whole : from + j ≡ index = omega arith in
      let blocks = ranges c from (length above) entries in
      let there : get_or above j [] ≡ mth digest (part (index * c) c entries) =
      ap (λ (r : List (List ℕ)). get_or r j []) up.is
      ∙ (get_or-map (mth digest) blocks j [] [] (omega (arith, lt, length-ranges c from (length above) entries))
      ∙ (ap (mth digest) (get_or-ranges c (level_positive (level + 1)) from (length above) j entries lt)
      ∙ ap (λ m. mth digest (part (m * c) c entries)) whole)) in
      let h = get_or above j [] in
      let t : IsTileHash digest entries level index h = record {
        low = (let low = l.wanted.low in omega (arith, low));
        fits = full_fits n level index (subst (λ m. index < edge_index_of m level) size_is l.wanted.is_full);
        hash_is = there;
      } in
      elim (given.rows level (subst (λ m. IsWanted first m level) size_is l.wanted)) [
        | inl tile ↦
            not_in_vain tiles tile.place (Tile level index 256) (IsFileOf digest full.Tile h) (tile_bytes digest entries level index 256)
            (tile_good short level index h t) tile.gives (l.nobody.tile.places tile.place tile.listed)
        | inr bundle ↦
            let file = bundle.1 in
            not_in_vain tiles file.place (Entries index 256) (IsFileOf digest full.Bundle h) (bundle_bytes entries index 256)
            (bundle_good short level index h t bundle.0) file.gives ((l.nobody.bundle bundle.0).places file.place file.listed)
      ]

pub given_files_are_had : GivenFilesAreHad
given_files_are_had digest hash puts tiles count first large small (NoEdge own none) entries short point clear given =
    edge_there digest hash entries short large point (omega (arith, small, point.size_is)) puts tiles count first none given
given_files_are_had digest hash puts tiles count first large small (NoRow edge leads hashes l) entries short point clear given =
    let size_is : edge.size ≡ length entries = leads.is_edge.size_is ∙ sym point.size_is in
    row_there digest hash entries short puts tiles count first edge size_is (omega (arith, small, leads.is_edge.size_is)) hashes l clear
    given
given_files_are_had digest hash puts tiles count first large small (NoLog edge leads hashes of) entries short point clear given =
    of.none hash (omega (arith, small, leads.is_edge.size_is)) entries short clear
