-- The edge rows and the partial bundle that a shelf has itself: in partial files, and in what full ones begin with.
use Rattle.std.proofs.Common.{Vec, Global, ◌≡◌, ℕ, ◌≤◌, List, [], ◌∷◌, length, inl, inr, Option, Some, None, refl, sym, ap, subst, ◌∙◌, arith}
use Rattle.std.specs.Prelude.{IfSome, option_map}
use Rattle.std.proofs.lemmas.Bool.{cases_lt}
use Rattle.std.proofs.lemmas.List.Elements.{All-nil}
use Rattle.tlog_shape.specs.Edge.{edge_index_of, width_of}
use Rattle.tlog_tiles.specs.Cut.{IsFileCut}
use Rattle.tlog_tiles.specs.Row.{IsRow}
use Rattle.tlog_tiles.specs.declared.paths.Path.{Path}
use Rattle.tlog_tiles.specs.declared.paths.Path.TheVariants.{Tile}
use Rattle.tlog_tiles.proofs.Cuts.{cuts_are_first}
use Rattle.tlog_tiles.proofs.RowLemmas.{row_one}
use Rattle.mirror_sources.specs.Files.{full_of}
use Rattle.mirror_folders.specs.Shelf.{Put, RecordsRead}
use Rattle.log_reader.specs.EdgeRows.{Edge, LeadsTo, row_at}
use Rattle.mirror_folders.specs.Partial.{IsCutOfRead, IsFullCut, IsReadCut}
use Rattle.mirror_folders.proofs.PartialFiles.{cut_before, record_before}
use Rattle.copy_places.specs.FoundRows.{AreFoundRows, IsFoundRow, IsRowIn}
use Rattle.copy_places.specs.Giving.{IsEdgeFrom, IsRowFrom, PartOf}
use Rattle.copy_places.specs.Mixes.{HaveNoMix, IsMixOf, IsOfEither, given_at}
use Rattle.copy_places.specs.declared.mix.GivenRows.{GivenRows}
use Rattle.copy_places.proofs.FoundRows.{row_weaker}
use Rattle.mirror_sources.specs.Recorded.{KeepsRecord}
use Rattle.copy_follow.specs.Lacked.{IsRecorded, LeadsNowhere}
use Rattle.copy_follow.specs.Taken.{WasPut}
use Rattle.copy_follow.proofs.Lacking.{none_recorded, one_recorded}
use Rattle.copy_follow.proofs.ShelfReads.{cut_put, part_put}

none_row : (row : List (List ℕ)) → length row ≡ 0 → row ≡ []
none_row [] h = refl
none_row (x ∷ row) h = absurd (cc h)

-- ---- a row that was found

in_wide : (width : ℕ) (found : Option (List ℕ)) (row : List (List ℕ)) → IsRowIn width found (Some row) → length row ≡ width
in_wide width None row is = absurd (cc is)
in_wide width (Some bytes) row is = is.count

-- the row in known bytes
in_one : (width : ℕ) (bytes : List ℕ) (row : List (List ℕ)) → IsRow width bytes row → (found : Option (List ℕ)) → found ≡ Some bytes →
    (o : Option (List (List ℕ))) → IsRowIn width found o → o ≡ Some row
in_one width bytes row is found same None h =
    let none = subst (λ (f : Option (List ℕ)). IsRowIn width f None) same h in absurd (none row is)
in_one width bytes row is found same (Some other) h =
    let r = subst (λ (f : Option (List ℕ)). IsRowIn width f (Some other)) same h in
    ap (λ (l : List (List ℕ)). Some l) (row_one other row r.sizes is.sizes (r.count ∙ sym is.count) (sym r.text ∙ is.text))

module _ (finds : Path → Option (List ℕ) → Type 0) (n level : ℕ) where
  pub found_wide : (o : Option (List (List ℕ))) → IsFoundRow finds n level o → IfSome o (λ row. length row ≡ width_of n level)
  found_wide None h = tt
  found_wide (Some row) h = elim (cases_lt (width_of n level) 1) [
    | inl none ↦
        let is : row ≡ [] = cc (h.empty (omega (arith, none))) in
        ap length is ∙ omega (arith, none)
    | inr some ↦ let of = h.some some in in_wide (width_of n level) of.found row of.is_row
  ]

  -- by bytes that may be taken
  found_from : (take : Path → List ℕ → Type 0) → ((path : Path) (bytes : List ℕ) → finds path (Some bytes) → PartOf take path bytes) →
      (row : List (List ℕ)) → IsFoundRow finds n level (Some row) → IsRowFrom take n level row
  found_from take f row h = elim (cases_lt (width_of n level) 1) [
    | inl none ↦
        let is : row ≡ [] = cc (h.empty (omega (arith, none))) in
        record {
          bytes = [];
          is_row = subst (λ (r : List (List ℕ)). IsRow (width_of n level) [] r) (sym is)
              (record { count = omega (arith, none); sizes = All-nil (λ (d : List ℕ). length d ≡ 32); text = refl });
          taken = λ some. absurd (omega (arith, none, some));
        }
    | inr some ↦ let of = h.some some in from of.found of.tile of.is_row
  ]
    where
      from : (found : Option (List ℕ)) → finds (Tile level (edge_index_of n level) (width_of n level)) found →
          IsRowIn (width_of n level) found (Some row) → IsRowFrom take n level row
      from None tile is = absurd (cc is)
      from (Some bytes) tile is = record {
        bytes = bytes;
        is_row = is;
        taken = λ some. f (Tile level (edge_index_of n level) (width_of n level)) bytes tile;
      }

  -- the row of bytes that are surely found
  found_one : (bytes : List ℕ) (row : List (List ℕ)) → IsRow (width_of n level) bytes row → 1 ≤ width_of n level →
      ((found : Option (List ℕ)) → finds (Tile level (edge_index_of n level) (width_of n level)) found → found ≡ Some bytes) →
      (o : Option (List (List ℕ))) → IsFoundRow finds n level o → o ≡ Some row
  found_one bytes row is some sure o h =
      let of = h.some some in in_one (width_of n level) bytes row is of.found (sure of.found of.tile) o of.is_row

-- ---- what is on the shelf

module _ (puts : Option (List Put)) (path : Path) where
  read_sure : (bytes : List ℕ) → IsRecorded puts path bytes → (found : Option (List ℕ)) → RecordsRead puts path found →
      found ≡ Some bytes
  read_sure bytes there None read = absurd (none_recorded puts path bytes read there)
  read_sure bytes there (Some read_bytes) read =
      ap (λ (b : List ℕ). Some b) (one_recorded puts path bytes read_bytes read there)

  cut_one : (full bytes : List ℕ) → IsFileCut path 256 full bytes → (found : Option (List ℕ)) → IsFullCut path full found →
      found ≡ Some bytes
  cut_one full bytes cut None none = absurd (none bytes cut)
  cut_one full bytes cut (Some other) is = ap (λ (b : List ℕ). Some b) (cuts_are_first.one path 256 full other bytes is cut)

  pub cut_sure : (full bytes : List ℕ) → IsRecorded puts (full_of path) full → IsFileCut path 256 full bytes →
      (found : Option (List ℕ)) → IsReadCut puts path found → found ≡ Some bytes
  cut_sure full bytes there cut found h = by h.full h.read h.gives
    where
      by : (read : Option (List ℕ)) → RecordsRead puts (full_of path) read → IsCutOfRead puts path read found → found ≡ Some bytes
      by None read gives = absurd (none_recorded puts (full_of path) full read there)
      by (Some other) read gives =
          cut_one full bytes cut found (subst (λ (b : List ℕ). IsFullCut path b found)
          (one_recorded puts (full_of path) full other read there) gives)

-- ---- all rows

module _ (puts : Option (List Put)) (n : ℕ) (parts cuts : GivenRows) (are_parts : AreFoundRows (RecordsRead puts) n parts)
    (are_cuts : AreFoundRows (IsReadCut puts) n cuts) where
  from_either : (level : ℕ) → level ≤ 7 → (row : List (List ℕ)) → IsOfEither parts cuts level row → IsRowFrom (WasPut puts) n level row
  from_either level low row (inl is) =
      found_from (RecordsRead puts) n level (WasPut puts) (λ path bytes read. part_put puts path bytes read) row
      (subst (λ (o : Option (List (List ℕ))). IsFoundRow (RecordsRead puts) n level o) is (are_parts.each level low))
  from_either level low row (inr is) =
      found_from (IsReadCut puts) n level (WasPut puts) (λ path bytes cut. cut_put puts path bytes cut) row
      (subst (λ (o : Option (List (List ℕ))). IsFoundRow (IsReadCut puts) n level o) is (are_cuts.each level low))

  pub mix_taken : (edge : Edge) → edge.size ≡ n → IsMixOf parts cuts edge → IsEdgeFrom (WasPut puts) n edge
  mix_taken edge size_is mix = record {
    size_is = size_is;
    rows_are = λ level low. from_either level low (row_at edge level) (mix level low);
  }

  of_part : (level : ℕ) → level ≤ 7 → (bytes : List ℕ) (row : List (List ℕ)) → IsRow (width_of n level) bytes row →
      1 ≤ width_of n level → PartOf (IsRecorded puts) (Tile level (edge_index_of n level) (width_of n level)) bytes →
      IsOfEither parts cuts level row
  of_part level low bytes row is some (inl there) =
      inl (found_one (RecordsRead puts) n level bytes row is some
      (λ found read. read_sure puts (Tile level (edge_index_of n level) (width_of n level)) bytes there found read)
      (given_at parts level) (are_parts.each level low))
  of_part level low bytes row is some (inr (full, there, cut)) =
      inr (found_one (IsReadCut puts) n level bytes row is some
      (λ found read. cut_sure puts (Tile level (edge_index_of n level) (width_of n level)) full bytes there cut found read)
      (given_at cuts level) (are_cuts.each level low))

  is_mix : (edge : Edge) → IsEdgeFrom (IsRecorded puts) n edge → IsMixOf parts cuts edge
  is_mix edge from level low =
      let r = from.rows_are level low in
      let row = row_at edge level in
      elim (cases_lt (width_of n level) 1) [
        | inl none ↦
            let zero : width_of n level ≡ 0 = omega (arith, none) in
            let is : row ≡ [] = none_row row (r.is_row.count ∙ zero) in
            let part = are_parts.each level low in
            inl (part.empty zero ∙ ap (λ (l : List (List ℕ)). Some l) (sym is))
        | inr some ↦ of_part level low r.bytes row r.is_row some (r.taken some)
      ]

  -- no mix of the rows leads to the root
  pub mix_nowhere : (digest : List ℕ → List ℕ) (root : List ℕ) → HaveNoMix digest n root parts cuts → LeadsNowhere digest puts n root
  mix_nowhere digest root alone edge from leads =
      alone.none edge leads.is_edge.size_is leads.is_edge.widths (is_mix edge from) leads.root_is

-- ---- row after row

module _ (old new : Option (List Put)) (kept : KeepsRecord old new) (n level : ℕ) (row : Option (List (List ℕ))) where
  pub part_before : IsFoundRow (RecordsRead new) n level row → IsFoundRow (RecordsRead old) n level row
  part_before h =
      row_weaker (RecordsRead new) (RecordsRead old) (λ path found read. record_before old new kept path found read) n level row h

  pub cut_row_before : IsFoundRow (IsReadCut new) n level row → IsFoundRow (IsReadCut old) n level row
  cut_row_before h =
      row_weaker (IsReadCut new) (IsReadCut old) (λ path found read. cut_before old new kept path found read) n level row h

-- ---- what was found

pub edge_taken : (puts : Option (List Put)) (n : ℕ) (root : List ℕ) (digest : List ℕ → List ℕ) (parts cuts : GivenRows) →
    AreFoundRows (RecordsRead puts) n parts → AreFoundRows (IsReadCut puts) n cuts → (o : Option Edge) →
    IfSome o (LeadsTo digest n root) → IfSome o (IsMixOf parts cuts) → IfSome o (IsEdgeFrom (WasPut puts) n)
edge_taken puts n root digest parts cuts p q None leads mix = tt
edge_taken puts n root digest parts cuts p q (Some edge) leads mix = mix_taken puts n parts cuts p q edge leads.is_edge.size_is mix

pub mapped_not : (o : Option (Vec ℕ Global)) (P : List ℕ → Type 0) → IfSome o (λ v. P v.items → ⊥) → (bytes : List ℕ) →
    option_map (λ v. v.items) o ≡ Some bytes → P bytes → ⊥
mapped_not None P bad bytes is p = absurd (cc is)
mapped_not (Some v) P bad bytes is p = let same : v.items ≡ bytes = cc is in bad (subst P (sym same) p)
