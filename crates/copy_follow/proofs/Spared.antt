-- Faults that do not come while one place is honest.
use Rattle.std.proofs.Common.{◌≡◌, ℕ, ◌+◌, ◌-◌, ◌*◌, ◌/◌, ◌^◌, ◌<◌, ◌≤◌, All, List, [], length, map, take, drop, get_or}
use Rattle.std.proofs.Common.{inl, inr, Option, Result, Ok, Err, IfErr, refl, sym, ap, subst, ◌∙◌, arith, length-take}
use Rattle.std.proofs.Math.Nat.{div-mul-le_self}
use Rattle.std.proofs.lemmas.Nat.{mul-le}
use Rattle.std.specs.List.{Contains}
use Rattle.std.proofs.lemmas.List.{get_or-map, length-map, take-append-drop}
use Rattle.std.proofs.lemmas.List.Elements.{All-map}
use Rattle.tlog_shape.specs.Edge.{edge_index_of, width_of}
use Rattle.tlog_shape.proofs.Levels.{level_next, level_positive}
use Rattle.tlog_hash.specs.Tree.{joins, leaf_hash, mth, strings}
use Rattle.tlog_hash.specs.Rows.{level_row, part, ranges}
use Rattle.tlog_hash.proofs.Folds.{length-ranges}
use Rattle.tlog_hash.proofs.LeafRanges.{rows_of_leaves}
use Rattle.tlog_tiles.specs.declared.paths.Path.TheVariants.{Entries, Tile}
use Rattle.tlog_tiles.proofs.EdgeLemmas.{hashes_of}
use Rattle.mirror_model.specs.Strings.{IsDigest}
use Rattle.mirror_model.proofs.RowLaws.{get_or-ranges}
use Rattle.mirror_model.proofs.TrueItems.{tile_end}
use Rattle.log_reader.specs.EdgeRows.{Edge, HasWidths, row_at}
use Rattle.log_reader.specs.Verified.{HasLeaves, Verifies}
use Rattle.log_reader.specs.declared.verify.FullFile.TheVariants as kind
use Rattle.copy_follow.specs.Conflicts.{IsNoConflict}
use Rattle.mirror_folders.specs.Shelf.{Put}
use Rattle.copy_follow.specs.Faults.{BlamesLast, IsOfNoPlace}
use Rattle.copy_follow.specs.Suffices.{IsEdgeTrue, IsNoLack, IsSpared, IsTileHash, IsTileRow}
use Rattle.copy_places.specs.TruePlaces.{IsFileUnder}
use Rattle.copy_follow.specs.Taken.{AreEntriesClear, IsRowClear}
use Rattle.copy_places.specs.TrueAnswers.{HasTrueLeaves}
use Rattle.copy_follow.specs.declared.bring_fault.BringFault.{BringFault}
use Rattle.copy_follow.specs.declared.bring_fault.BringFault.TheVariants.{BadCheckpoint, CopyDamaged, NotLarger}
use Rattle.copy_follow.specs.declared.bring_fault.BringFault.TheVariants.{Contradiction, Collision, NoFile, Source, CopyInUse}
use Rattle.copy_follow.specs.declared.bring_fault.BringFault.TheVariants.{ShelfFault, OutOfMemory}
use Rattle.copy_places.proofs.Prefixes.{part_front}
use Rattle.copy_follow.proofs.TrueRows.{joins_within, true_entries, true_row}

pub spared : (e : BringFault) → IsNoLack e → IsNoConflict e → IsSpared e
spared BadCheckpoint h n = tt
spared CopyDamaged h n = tt
spared NotLarger h n = tt
spared Contradiction h n = n
spared Collision h n = n
spared NoFile h n = h.0 refl
spared Source h n = h.1 refl
spared CopyInUse h n = tt
spared ShelfFault h n = tt
spared OutOfMemory h n = tt

pub spared_shelf : (e : BringFault) → IsOfNoPlace e → IsNoConflict e → IsSpared e
spared_shelf BadCheckpoint h n = tt
spared_shelf CopyDamaged h n = tt
spared_shelf NotLarger h n = tt
spared_shelf Contradiction h n = n
spared_shelf Collision h n = n
spared_shelf NoFile h n = h
spared_shelf Source h n = h
spared_shelf CopyInUse h n = tt
spared_shelf ShelfFault h n = tt
spared_shelf OutOfMemory h n = tt

-- a consequence of a fault that does not come, for an answer
pub spared_answer : {T : Type 0} (r : Result T BringFault) (Q : BringFault → Type 0) → ((e : BringFault) → IsSpared e → Q e) →
    IfErr r IsOfNoPlace → IfErr r IsNoConflict → IfErr r Q
spared_answer (Ok x) Q f h n = tt
spared_answer (Err e) Q f h n = f e (spared_shelf e h n)

pub no_lack : (e : BringFault) → IsOfNoPlace e → IsNoLack e
no_lack BadCheckpoint h = absurd h
no_lack CopyDamaged h = absurd h
no_lack NotLarger h = absurd h
no_lack Contradiction h = (λ e. cc, λ e. cc)
no_lack Collision h = (λ e. cc, λ e. cc)
no_lack NoFile h = absurd h
no_lack Source h = absurd h
no_lack CopyInUse h = absurd h
no_lack ShelfFault h = (λ e. cc, λ e. cc)
no_lack OutOfMemory h = (λ e. cc, λ e. cc)

-- the same for the last step
pub spared_last : {T : Type 0} (r : Result T BringFault) (Q : BringFault → Type 0) → ((e : BringFault) → IsSpared e → Q e) →
    (found : Option (List ℕ)) (puts : Option (List Put)) → IfErr r (BlamesLast found puts) → IfErr r IsNoConflict → IfErr r Q
spared_last (Ok x) Q f found puts h n = tt
spared_last (Err e) Q f found puts (inl h) n = f e (subst (λ (e : BringFault). IsSpared e) (sym h.0) tt)
spared_last (Err e) Q f found puts (inr h) n = f e (spared_shelf e h n)

pub err_weaker : {T : Type 0} (r : Result T BringFault) (P Q : BringFault → Type 0) → ((e : BringFault) → P e → Q e) →
    IfErr r P → IfErr r Q
err_weaker (Ok x) P Q f h = tt
err_weaker (Err e) P Q f h = f e h

module _ (digest : List ℕ → List ℕ) (entries : List (List ℕ)) (size : ℕ) (upto : size ≤ length entries) where
  abbrev log : List (List ℕ)
  log = take size entries

  part_log : (start len : ℕ) → start + len ≤ length log → part start len log ≡ part start len entries
  part_log start len le =
      sym (part_front start len log (drop size entries) le)
      ∙ ap (part start len) (take-append-drop size entries)

  log_upto : length log ≤ length entries
  log_upto = omega (arith, length-take size entries)

  hash_log : (level index : ℕ) (hash : List ℕ) → IsTileHash digest log level index hash →
      hash ≡ mth digest (part (256 * index * 256 ^ level) (256 * 256 ^ level) entries)
  hash_log level index hash is =
      let c = 256 ^ (level + 1) in
      let next : c ≡ 256 * 256 ^ level = level_next level in
      let start : 256 * index * 256 ^ level ≡ index * c = omega (arith, ap (λ m. index * m) next) in
      let fits = is.within in
      let le : index * c + c ≤ length log = omega (arith, fits) in
      is.is ∙ (ap (mth digest) (part_log (index * c) c le) ∙ (λ i. mth digest (part (sym start i) (next i) entries)))

  ends_within : (level index : ℕ) (hash : List ℕ) → IsTileHash digest log level index hash →
      (256 * index + 256) * 256 ^ level ≤ length entries
  ends_within level index hash is = let fits = is.within in omega (arith, tile_end level index, fits, log_upto)

  pub tile_under : (level index : ℕ) (hash : List ℕ) → level ≤ 7 → IsTileHash digest log level index hash →
      IsFileUnder digest entries kind.Tile (Tile level index 256) hash
  tile_under level index hash low is = (
    refl,
    record { level_fits = low; some = omega arith; upto = omega arith; within = ends_within level index hash is },
    hash_log level index hash is,
  )

  pub bundle_under : (index : ℕ) (hash : List ℕ) → IsTileHash digest log 0 index hash →
      IsFileUnder digest entries kind.Bundle (Entries index 256) hash
  bundle_under index hash is = (
    refl,
    record { level_fits = omega arith; some = omega arith; upto = omega arith; within = ends_within 0 index hash is },
    hash_log 0 index hash is,
  )

  -- the partial bundle at a true edge
  pub true_leaves : (edge : Edge) → HasWidths edge → IsEdgeTrue digest log edge → (index width : ℕ) →
      index ≡ edge_index_of edge.size 0 → width ≡ length (row_at edge 0) → 1 ≤ width →
      HasTrueLeaves digest entries (Entries index width) (row_at edge 0)
  true_leaves edge widths is index width at wide some =
      let n = edge.size in
      let w : length (row_at edge 0) ≡ width_of n 0 = widths 0 (omega arith) in
      let sum : 256 * index + width ≡ n = omega (arith, at, wide, w, hashes_of n 0) in
      let fits : 256 * index + width ≤ length log = omega (arith, sum, is.size_is) in
      let row : row_at edge 0 ≡ level_row digest log 0 (256 * index) width =
      is.rows_are 0 (omega arith) ∙ (λ i. level_row digest log 0 (256 * sym at i) ((sym w ∙ sym wide) i)) in (
        wide,
        record {
          level_fits = omega arith;
          some = some;
          upto = omega (arith, wide, w);
          within = omega (arith, fits, log_upto);
        },
        row ∙ (rows_of_leaves digest width (256 * index) log fits
            ∙ ap (map (leaf_hash digest)) (part_log (256 * index) width fits)),
      )

module _ (digest : List ℕ → List ℕ) (hash : IsDigest digest) (log : List (List ℕ)) where
  -- a full tile that verifies under a true hash is true
  pub tile_true : (level index : ℕ) (value bytes : List ℕ) (row : List (List ℕ)) → Verifies digest kind.Tile value bytes row →
      IsTileHash digest log level index value → IsRowClear digest log row → IsTileRow digest log level index row
  tile_true level index value bytes row v is clean =
      let count = v.is_row.count in
      let fits = is.within in
      let same = true_row digest hash log (joins digest row) clean level index row value count v.is_row.sizes v.folds is (λ y c. c) in
      record {
        within = subst (λ w. (256 * index + w) * 256 ^ level ≤ length log) (sym count) (omega (arith, tile_end level index, fits));
        whole = inl count;
        is = same ∙ ap (λ w. level_row digest log level (256 * index) w) (sym count);
      }

  -- a full bundle that verifies under a true hash is true
  pub bundle_true : (index : ℕ) (value bytes : List ℕ) (row : List (List ℕ)) (v : Verifies digest kind.Bundle value bytes row) →
      IsTileHash digest log 0 index value → AreEntriesClear digest log v.is_row.entries →
      IsTileRow digest log 0 index row × (v.is_row.entries ≡ part (256 * index) 256 log)
  bundle_true index value bytes row v is clean =
      let es = v.is_row.entries in
      let leaves = v.is_row.row_is in
      let fits = is.within in
      let count : length row ≡ 256 = ap length leaves ∙ (length-leaves es ∙ v.is_row.is_bundle.count) in
      let sizes = subst (λ (r : List (List ℕ)). All (λ (h : List ℕ). length h ≡ 32) r) (sym leaves) (leaf_sizes es) in
      let same = true_row digest hash log (strings digest es) clean 0 index row value count sizes v.folds is
      (λ y c. joins_within digest es y (subst (λ (r : List (List ℕ)). Contains (joins digest r) y) leaves c)) in (
        record {
          within = subst (λ w. (256 * index + w) * 256 ^ 0 ≤ length log) (sym count) (omega (arith, fits));
          whole = inl count;
          is = same ∙ ap (λ w. level_row digest log 0 (256 * index) w) (sym count);
        },
        true_entries digest hash log (strings digest es) clean index 256 es (omega (arith, fits)) (sym leaves ∙ same) (λ y c. c),
      )
    where
      length-leaves : (es : List (List ℕ)) → length (map (leaf_hash digest) es) ≡ length es
      length-leaves es = length-map es (leaf_hash digest)

      leaf_sizes : (es : List (List ℕ)) → All (λ (h : List ℕ). length h ≡ 32) (map (leaf_hash digest) es)
      leaf_sizes es = All-map (λ (h : List ℕ). length h ≡ 32) (leaf_hash digest) es (λ k d p. hash _)

  -- the hashes of a true row are true
  pub child_true : (level index i : ℕ) (row : List (List ℕ)) → 1 ≤ level → i < length row → IsTileRow digest log level index row →
      IsTileHash digest log (level - 1) (256 * index + i) (get_or row i [])
  child_true level index i row some lt is =
      let up : level ≡ level - 1 + 1 = omega arith in
      let size = 256 ^ level in
      let first = 256 * index in
      let blocks = ranges size first (length row) log in
      let fits = is.within in
      let less : (first + i + 1) * size ≤ (first + length row) * size =
      mul-le (first + i + 1) size (first + length row) size (omega arith) (omega arith) in
      let there : get_or row i [] ≡ mth digest (part ((first + i) * size) size log) =
      ap (λ (l : List (List ℕ)). get_or l i []) is.is
      ∙ (get_or-map (mth digest) blocks i [] [] (omega (arith, lt, length-ranges size first (length row) log))
      ∙ ap (mth digest) (get_or-ranges size (level_positive level) first (length row) i log lt)) in
      record {
        within = subst (λ l. (first + i + 1) * 256 ^ l ≤ length log) up (omega (arith, less, fits));
        is = there ∙ ap (λ l. mth digest (part ((first + i) * 256 ^ l) (256 ^ l) log)) up;
      }

  -- each row of a true edge is true
  pub edge_row_true : (edge : Edge) → HasWidths edge → IsEdgeTrue digest log edge → (level : ℕ) → level ≤ 7 →
      IsTileRow digest log level (edge_index_of edge.size level) (row_at edge level)
  edge_row_true edge widths is level low =
      let n = edge.size in
      let w : length (row_at edge level) ≡ width_of n level = widths level low in
      let sum : 256 * edge_index_of n level + length (row_at edge level) ≡ n / 256 ^ level = omega (arith, w, hashes_of n level) in
      record {
        within = subst (λ m. m * 256 ^ level ≤ length log) (sym sum)
            (subst (λ m. n / 256 ^ level * 256 ^ level ≤ m) is.size_is (div-mul-le_self n (256 ^ level)));
        whole = inr (sum ∙ ap (λ m. m / 256 ^ level) is.size_is);
        is = is.rows_are level low ∙ ap (λ k. level_row digest log level (256 * edge_index_of n level) k) (sym w);
      }

  -- the partial bundle at a true edge
  pub edge_bundle_true : (edge : Edge) → HasWidths edge → IsEdgeTrue digest log edge → (index width : ℕ) (bytes : List ℕ)
      (row : List (List ℕ)) → index ≡ edge_index_of edge.size 0 → row ≡ row_at edge 0 → width ≡ length row →
      (v : HasLeaves digest width bytes row) → AreEntriesClear digest log v.entries →
      v.entries ≡ part (256 * index) width log
  edge_bundle_true edge widths is index width bytes row at row_is wide v clean =
      let w : width ≡ width_of edge.size 0 = wide ∙ (ap length row_is ∙ widths 0 (omega arith)) in
      let sum : 256 * index + width ≡ edge.size = omega (arith, at, w, hashes_of edge.size 0) in
      let there : row_at edge 0 ≡ level_row digest log 0 (256 * index) width =
      is.rows_are 0 (omega arith) ∙ (λ i. level_row digest log 0 (256 * sym at i) (sym w i)) in
      true_entries digest hash log (strings digest v.entries) clean index width v.entries (omega (arith, sum, is.size_is))
      (sym v.row_is ∙ (row_is ∙ there)) (λ y c. c)
