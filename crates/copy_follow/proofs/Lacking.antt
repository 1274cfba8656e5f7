-- Files of a log that nobody has, while a repair goes on to the others.
use Rattle.std.proofs.Common.{◌≡◌, ◌⊎◌, ℕ, ◌+◌, ◌-◌, ◌*◌, ◌/◌, ◌^◌, ◌<◌, ◌≤◌, List, [], length, map, take, get_or}
use Rattle.std.proofs.Common.{inl, inr, Option, Some, None, Err, Bool, false, refl, sym, ap, subst, ◌∙◌, arith}
use Rattle.std.proofs.Math.Seq.{take-length}
use Rattle.std.proofs.lemmas.Bool.{cases_lt, false≢true}
use Rattle.std.proofs.lemmas.List.Elements.{All-contains}
use Rattle.std.specs.Prelude.{IfNone}
use Rattle.tlog_shape.specs.Edge.{edge_index_of, width_of}
use Rattle.tlog_hash.specs.Rows.{level_row, part}
use Rattle.tlog_hash.specs.Tree.{fold_of, leaf_hash, mth}
use Rattle.tlog_hash.proofs.LeafRanges.{rows_of_leaves}
use Rattle.tlog_tiles.specs.declared.paths.Path.{Path}
use Rattle.tlog_tiles.specs.declared.paths.Path.TheVariants.{Checkpoint, Tile, Entries}
use Rattle.tlog_tiles.specs.Cut.{IsFileCut}
use Rattle.tlog_tiles.specs.Tiles.{IsWithin}
use Rattle.tlog_tiles.proofs.EdgeLemmas.{hashes_of}
use Rattle.tlog_tiles.proofs.TileLemmas.{row_folds, served_is_read}
use Rattle.mirror_model.specs.Strings.{IsDigest}
use Rattle.mirror_model.specs.TrueLaws.{AreShort}
use Rattle.mirror_sources.specs.Files.{full_of}
use Rattle.mirror_sources.specs.Honest.{true_bytes}
use Rattle.mirror_sources.specs.Recorded.{KeepsRecord}
use Rattle.mirror_folders.specs.FileLaws.{IsWidestIn}
use Rattle.mirror_folders.specs.Shelf.{Put, RecordsHas, RecordsNone, RecordsRead}
use Rattle.mirror_folders.proofs.AllFiles.{files_are_all}
use Rattle.mirror_folders.proofs.Standing.{stands_more}
use Rattle.log_reader.specs.EdgeRows.{Edge, HasWidths, row_at}
use Rattle.log_reader.specs.Holding.{IsTreeFile}
use Rattle.log_reader.specs.Verified.{HasLeaves, Verifies}
use Rattle.log_reader.specs.declared.verify.FullFile.{FullFile}
use Rattle.log_reader.specs.declared.verify.FullFile.TheVariants as kind
use Rattle.copy_places.specs.PlaceGets.{AsksPlaces}
use Rattle.copy_places.specs.Asked.{IsAskedInVain}
use Rattle.copy_places.specs.InVain.{IsPartAskedInVain}
use Rattle.copy_places.specs.TrueAnswers.{HasTrueLeaves}
use Rattle.copy_places.specs.TruePlaces.{GivesTrueFiles, HasTruePlace, IsFileUnder}
use Rattle.copy_places.specs.declared.place.Place.{Place}
use Rattle.copy_places.specs.declared.places.Places.{Places}
use Rattle.copy_places.proofs.Asking.{asks_same}
use Rattle.copy_places.proofs.Giving.{edge_weaker}
use Rattle.copy_places.proofs.InVain.{files_between, files_weaker, parts_between, parts_weaker}
use Rattle.copy_places.proofs.TruePlaces.{place_between}
use Rattle.copy_follow.specs.Damaged.{IsEdgeWrong}
use Rattle.mirror_folders.specs.Partial.{IsOfRead, IsReadPartial}
use Rattle.copy_follow.specs.Growing.{IsBelow, IsNewFile}
use Rattle.copy_follow.specs.Lacked.{AtOkOrLack, GoesAlong, GoesBelow, GoesDown, GoesOverAll, IsEdgeNowhere, IsEndNowhere, IsFoundNowhere, IsHadOrLacked, IsLacked, IsNobodysFile, IsNobodysPart, IsOwnPart, IsRecorded, LacksBundle, LacksEnd, LacksLeafTile, LacksTile, LeadsNowhere, StandsOrNobodys}
use Rattle.copy_follow.specs.Repaired.{IsLack, PutsTrue, RecordsHad}
use Rattle.copy_follow.specs.Standing.{RecordsStands}
use Rattle.copy_follow.specs.Suffices.{IsEdgeTrue, IsSpared, IsTileHash}
use Rattle.copy_follow.specs.declared.bring_fault.BringFault.{BringFault}
use Rattle.copy_follow.specs.declared.bring_fault.BringFault.TheVariants.{BadCheckpoint, CopyDamaged, NotLarger}
use Rattle.copy_follow.specs.declared.bring_fault.BringFault.TheVariants.{Contradiction, Collision, NoFile, Source, CopyInUse}
use Rattle.copy_follow.specs.declared.bring_fault.BringFault.TheVariants.{ShelfFault, OutOfMemory}
use Rattle.copy_follow.proofs.Below.{below_bundle, below_child, records_earlier, records_later}
use Rattle.copy_follow.proofs.Finishing.{IsUnder, full_under, partial_at}
use Rattle.copy_follow.proofs.Damages.{edge_wrong_before}
use Rattle.copy_follow.proofs.Growth.{gathers_none, kept_adds}
use Rattle.copy_follow.proofs.MendedFiles.{had_earlier, had_later, had_stands, no_file}
use Rattle.copy_follow.proofs.PrunedFiles.{file_listed}
use Rattle.copy_follow.proofs.Spared.{bundle_under, tile_under, true_leaves}
use Rattle.copy_follow.proofs.TipReads.{stands_has, stands_one}

-- ---- what a read of the shelf shows

-- nothing was put at the path
pub none_recorded : (x : Option (List Put)) (path : Path) (bytes : List ℕ) → RecordsRead x path None → IsRecorded x path bytes → ⊥
none_recorded None path bytes read there = there
none_recorded (Some xs) path bytes read there = read (stands_has xs path bytes there)

-- the bytes that were read are those on the shelf
pub one_recorded : (x : Option (List Put)) (path : Path) (bytes read : List ℕ) → RecordsRead x path (Some read) →
    IsRecorded x path bytes → read ≡ bytes
one_recorded None path bytes read at there = absurd there
one_recorded (Some xs) path bytes read at there = stands_one xs path read bytes at there

pub none_noted : (x : Option (List Put)) (path : Path) → RecordsRead x path None → RecordsNone x path
none_noted None path read = tt
none_noted (Some xs) path read = read

-- there is no file at the path
pub none_there : (x : Option (List Put)) (path : Path) (b : Bool) → RecordsHas x path b → b ≡ false → RecordsNone x path
none_there None path b has not_so = tt
none_there (Some xs) path b has not_so = λ there. false≢true (sym not_so ∙ has.1 there)

-- the same for a partial file
pub no_part : (x : Option (List Put)) (path : Path) (bytes : List ℕ) → IsReadPartial x path None → IsRecorded x path bytes → ⊥
no_part x path bytes h there = by h.own h.read h.gives
  where
    by : (own : Option (List ℕ)) → RecordsRead x path own → IsOfRead x path own None → ⊥
    by None read gives = none_recorded x path bytes read there
    by (Some own) read gives = absurd (cc gives)

pub one_part : (x : Option (List Put)) (path : Path) (bytes found : List ℕ) → IsReadPartial x path (Some found) →
    IsRecorded x path bytes → found ≡ bytes
one_part x path bytes found h there = by h.own h.read h.gives
  where
    by : (own : Option (List ℕ)) → RecordsRead x path own → IsOfRead x path own (Some found) → found ≡ bytes
    by None read gives = absurd (none_recorded x path bytes read there)
    by (Some own) read gives = let same : found ≡ own = cc gives in same ∙ one_recorded x path bytes own read there

-- ---- while true files are put

module _ (digest : List ℕ → List ℕ) (log : List (List ℕ)) where
  pub recorded_later : (a b : Option (List Put)) (path : Path) → PutsTrue digest log a b →
      IsRecorded a path (true_bytes digest log path) → IsRecorded b path (true_bytes digest log path)
  recorded_later None b path g there = absurd there
  recorded_later (Some xs) None path g there = absurd g.recorded
  recorded_later (Some xs) (Some ys) path g there =
      subst (λ (l : List Put). IsRecorded (Some l) path (true_bytes digest log path)) (sym g.recorded)
      (stands_more xs g.puts path (true_bytes digest log path) there
      (λ other has. (All-contains (IsNewFile digest 0 log) g.puts (path, other) g.are_new has).bytes_are))

  -- a file that is not of the log stays as it is
  beyond_later : (a b : Option (List Put)) (path : Path) (bytes : List ℕ) → PutsTrue digest log a b → (IsWithin (length log) path → ⊥) →
      IsRecorded a path bytes → IsRecorded b path bytes
  beyond_later None b path bytes g out there = absurd there
  beyond_later (Some xs) None path bytes g out there = absurd g.recorded
  beyond_later (Some xs) (Some ys) path bytes g out there =
      subst (λ (l : List Put). IsRecorded (Some l) path bytes) (sym g.recorded)
      (stands_more xs g.puts path bytes there
      (λ other has. absurd (out (All-contains (IsNewFile digest 0 log) g.puts (path, other) g.are_new has).within)))

  -- the full bundle of the partial one is not of the log
  end_beyond : (path : Path) → path ≡ Entries (edge_index_of (length log) 0) (width_of (length log) 0) →
      IsWithin (length log) (full_of path) → ⊥
  end_beyond path is within =
      let n = length log in
      let file = subst (λ p. IsWithin n (full_of p)) is within in
      let fits = file.within in
      let sum = hashes_of n 0 in
      let small : width_of n 0 < 256 = omega arith in
      omega (arith, fits, sum, small)

  own_later : (a b : Option (List Put)) (path : Path) → PutsTrue digest log a b →
      path ≡ Entries (edge_index_of (length log) 0) (width_of (length log) 0) → IsOwnPart a path (true_bytes digest log path) →
      IsOwnPart b path (true_bytes digest log path)
  own_later a b path g is (inl there) = inl (recorded_later a b path g there)
  own_later a b path g is (inr (full, there, cut)) =
      inr (full, beyond_later a b (full_of path) full g (end_beyond path is) there, cut)

  pub stands_later : (a b c : Option (List Put)) (path : Path) → PutsTrue digest log b c →
      RecordsStands a b path (true_bytes digest log path) → RecordsStands a c path (true_bytes digest log path)
  stands_later a b c path g there =
      records_later a b c path (true_bytes digest log path) g.puts g.recorded
      (λ other has. (All-contains (IsNewFile digest 0 log) g.puts (path, other) g.are_new has).bytes_are) there

  pub stands_earlier : (a b c : Option (List Put)) (path : Path) → PutsTrue digest log a b →
      RecordsStands b c path (true_bytes digest log path) → RecordsStands a c path (true_bytes digest log path)
  stands_earlier a b c path g there = records_earlier a b c g.puts path (true_bytes digest log path) g.recorded there

-- ---- in a longer call

module _ {S : Type 0} (may : S → Path → Option (List ℕ) → Type 0) (failed : S → ℕ) (asked : S → Option (List Path))
    (digest : List ℕ → List ℕ) (log : List (List ℕ)) where
  module _ (so also last : Path → Type 0) (x y z w : Places S) (p : AsksPlaces may failed asked so x y)
      (q : AsksPlaces may failed asked also y z) (r : AsksPlaces may failed asked last z w) where
    module _ (a b : Option (List Put)) (g : PutsTrue digest log a b) where
      nobodys_between : (path : Path) → IsNobodysFile digest log may y z b path → IsNobodysFile digest log may x w a path
      nobodys_between path n = record {
        shelf = λ there. n.shelf (recorded_later digest log a b path g there);
        places = files_between may failed asked path (λ bytes. bytes ≡ true_bytes digest log path) so also last x y z w p q r n.places;
      }

      nobodys_part : (path : Path) → path ≡ Entries (edge_index_of (length log) 0) (width_of (length log) 0) →
          IsNobodysPart digest log may y z b path → IsNobodysPart digest log may x w a path
      nobodys_part path is n = record {
        shelf = λ own. n.shelf (own_later digest log a b path g is own);
        places = parts_between may failed asked path (λ bytes. bytes ≡ true_bytes digest log path) so also last x y z w p q r n.places;
      }

      lacked_between : (path : Path) → IsLacked digest log may y z b path → IsLacked digest log may x w a path
      lacked_between path (LacksBundle index n is) = LacksBundle index (nobodys_between path n) is
      lacked_between path (LacksLeafTile index n bundle is) =
          LacksLeafTile index (nobodys_between path n) (nobodys_between (Entries index 256) bundle) is
      lacked_between path (LacksTile level index some n below) =
          LacksTile level index some (nobodys_between (Tile level index 256) n) below
      lacked_between path (LacksEnd n is) = LacksEnd (nobodys_part path is n) is

  -- a step, and then another
  module _ (so also : Path → Type 0) (x y z : Places S) (p : AsksPlaces may failed asked so x y)
      (q : AsksPlaces may failed asked also y z) (a b c : Option (List Put)) (g : PutsTrue digest log a b)
      (h : PutsTrue digest log b c) (same : PutsTrue digest log a a) where
    pub lacked_first : (path : Path) → IsLacked digest log may x y a path → IsLacked digest log may x z a path
    lacked_first path l = lacked_between so so also x x y z (asks_same may failed asked so x) p q a a same path l

    pub lacked_second : (path : Path) → IsLacked digest log may y z b path → IsLacked digest log may x z a path
    lacked_second path l = lacked_between so also also x y z z p q (asks_same may failed asked also z) a b g path l

    pub nobodys_first : (path : Path) → IsNobodysFile digest log may x y a path → IsNobodysFile digest log may x z a path
    nobodys_first path n = nobodys_between so so also x x y z (asks_same may failed asked so x) p q a a same path n

    pub or_nobodys_second : (path : Path) → StandsOrNobodys digest log may y z b c path → StandsOrNobodys digest log may x z a c path
    or_nobodys_second path (inl there) = inl (stands_earlier digest log a b c path g there)
    or_nobodys_second path (inr n) = inr (nobodys_between so also also x y z z p q (asks_same may failed asked also z) a b g path n)

    pub below_first : (level index : ℕ) → GoesBelow digest log may x y a b level index → GoesBelow digest log may x z a c level index
    below_first level index s path below = elim (s path below) [
      | inl there ↦ inl (stands_later digest log a b c path h there)
      | inr lacked ↦ inr (lacked_first path lacked)
    ]

    pub below_second : (level index : ℕ) → GoesBelow digest log may y z b c level index → GoesBelow digest log may x z a c level index
    below_second level index s path below = elim (s path below) [
      | inl there ↦ inl (stands_earlier digest log a b c path g there)
      | inr lacked ↦ inr (lacked_second path lacked)
    ]

    -- one more hash of a row
    pub along_more : (level index k : ℕ) → GoesAlong digest log may x y a b level index k →
        GoesBelow digest log may y z b c (level - 1) (256 * index + k) → GoesAlong digest log may x z a c level index (k + 1)
    along_more level index k s t i lt = elim (cases_lt i k) [
      | inl before ↦ below_first (level - 1) (256 * index + i) (s i before)
      | inr now ↦
          let is : k ≡ i = omega (arith, lt, now) in
          subst (λ j. GoesBelow digest log may x z a c (level - 1) (256 * index + j)) is
          (below_second (level - 1) (256 * index + k) t)
    ]

    -- one more row of the edge
    pub down_more : (low level : ℕ) → level + 1 ≡ low → GoesDown digest log may x y a b low →
        GoesAlong digest log may y z b c level (edge_index_of (length log) level) (width_of (length log) level) →
        GoesDown digest log may x z a c level
    down_more low level next s t l from upto k lt = elim (cases_lt level l) [
      | inl above ↦
          below_first (l - 1) (256 * edge_index_of (length log) l + k) (s l (omega (arith, above, next)) upto k lt)
      | inr here ↦
          let is : level ≡ l = omega (arith, from, here) in
          below_second (l - 1) (256 * edge_index_of (length log) l + k)
          (subst (λ j. GoesAlong digest log may y z b c j (edge_index_of (length log) j) (width_of (length log) j)) is t k lt)
    ]

    -- the rows of the edge, before later files
    pub down_first : (low : ℕ) → GoesDown digest log may x y a b low → GoesDown digest log may x z a c low
    down_first low s level from upto k lt =
        below_first (level - 1) (256 * edge_index_of (length log) level + k) (s level from upto k lt)

    -- a file of the edge, before later files
    pub had_second : (d : Option (List Put)) (path : Path) → IsTreeFile (length log) path → PutsTrue digest log c d →
        IsHadOrLacked digest log may y z b c path → IsHadOrLacked digest log may x z a d path
    had_second d path file last (inl there) =
        inl (had_earlier a b d g.puts path (true_bytes digest log path) g.recorded (had_later digest log path file b c d last there))
    had_second d path file last (inr lacked) = inr (lacked_second path lacked)

    -- the tile of a row, after all files below it
    pub tile_more : (level index : ℕ) → 1 ≤ level → GoesAlong digest log may x y a b level index 256 →
        RecordsStands b c (Tile level index 256) (true_bytes digest log (Tile level index 256)) →
        GoesBelow digest log may x z a c level index
    tile_more level index some s there path below =
        let sub = level - 1 in
        let up : level ≡ sub + 1 = omega (arith, some) in
        elim (below_child sub index path (subst (λ l. IsBelow l index path) up below)) [
          | inl tile ↦
              let at : path ≡ Tile level index 256 = tile ∙ ap (λ l. Tile l index 256) (sym up) in
              inl (subst (λ q. RecordsStands a c q (true_bytes digest log q)) (sym at)
              (stands_earlier digest log a b c (Tile level index 256) g there))
          | inr child ↦ below_first sub (256 * index + child.0) (s child.0 child.1) path child.2
        ]

-- ---- files that verify

abbrev IsGood : (List ℕ → List ℕ) → FullFile → List ℕ → List ℕ → Type 0
IsGood digest kind hash bytes = (row : List (List ℕ)) × Verifies digest kind hash bytes row

module _ (digest : List ℕ → List ℕ) (hash : IsDigest digest) (log : List (List ℕ)) (short : AreShort log) where
  first_all : (level index : ℕ) (value : List ℕ) → IsTileHash digest log level index value →
      IsTileHash digest (take (length log) log) level index value
  first_all level index value is = subst (λ (l : List (List ℕ)). IsTileHash digest l level index value) (sym (take-length log)) is

  under_tile : (level index : ℕ) (value : List ℕ) → level ≤ 7 → IsTileHash digest log level index value →
      IsFileUnder digest log kind.Tile (Tile level index 256) value
  under_tile level index value low is =
      tile_under digest log (length log) (omega arith) level index value low (first_all level index value is)

  under_bundle : (index : ℕ) (value : List ℕ) → IsTileHash digest log 0 index value →
      IsFileUnder digest log kind.Bundle (Entries index 256) value
  under_bundle index value is = bundle_under digest log (length log) (omega arith) index value (first_all 0 index value is)

  good_tile : (level index : ℕ) (value : List ℕ) → IsFileUnder digest log kind.Tile (Tile level index 256) value →
      IsGood digest kind.Tile value (true_bytes digest log (Tile level index 256))
  good_tile level index value u = (
    level_row digest log level (256 * index) 256,
    record {
      is_row = (served_is_read digest hash log short).tile level index 256;
      folds = row_folds digest log level (256 * index) 256 (omega arith) (let within = u.1 in within.within) ∙ sym u.2;
    },
  )

  good_bundle : (index : ℕ) (value : List ℕ) → IsFileUnder digest log kind.Bundle (Entries index 256) value →
      IsGood digest kind.Bundle value (true_bytes digest log (Entries index 256))
  good_bundle index value u =
      let within = u.1 in
      let fits = within.within in
      let row = map (leaf_hash digest) (part (256 * index) 256 log) in
      let same : level_row digest log 0 (256 * index) 256 ≡ row = rows_of_leaves digest 256 (256 * index) log (omega (arith, fits)) in (
        row,
        record {
          is_row = record {
            entries = part (256 * index) 256 log;
            is_bundle = (served_is_read digest hash log short).bundle index 256 within;
            row_is = refl;
          };
          folds = ap (fold_of digest) (sym same) ∙ (row_folds digest log 0 (256 * index) 256 (omega arith) fits ∙ sym u.2);
        },
      )

  module _ {S : Type 0} (may : S → Path → Option (List ℕ) → Type 0) (old new : Places S) (puts : Option (List Put))
      (k : FullFile) (path : Path) (value : List ℕ) (n : IsFoundNowhere digest may old new puts k path value)
      (good : IsGood digest k value (true_bytes digest log path)) where
    nobodys : IsNobodysFile digest log may old new puts path
    nobodys = record {
      shelf = λ there. n.shelf (true_bytes digest log path) there good.0 good.1;
      places = files_weaker may path (IsGood digest k value) (λ bytes. bytes ≡ true_bytes digest log path)
          (λ bytes same. subst (IsGood digest k value) (sym same) good) old new n.places;
    }

  module _ {S : Type 0} (may : S → Path → Option (List ℕ) → Type 0) (old new : Places S) (before : Option (List Put)) where
    pub tile_nobodys : (level index : ℕ) → level ≤ 7 → (value : List ℕ) → IsTileHash digest log level index value →
        IsFoundNowhere digest may old new before kind.Tile (Tile level index 256) value →
        IsNobodysFile digest log may old new before (Tile level index 256)
    tile_nobodys level index low value is n =
        let u = under_tile level index value low is in
        nobodys may old new before kind.Tile (Tile level index 256) value n (good_tile level index value u)

    pub bundle_nobodys : (index : ℕ) (value : List ℕ) → IsTileHash digest log 0 index value →
        IsFoundNowhere digest may old new before kind.Bundle (Entries index 256) value →
        IsNobodysFile digest log may old new before (Entries index 256)
    bundle_nobodys index value is n =
        let u = under_bundle index value is in
        nobodys may old new before kind.Bundle (Entries index 256) value n (good_bundle index value u)

-- a bundle and its tile stand
pub bundle_stands : (digest : List ℕ → List ℕ) (log : List (List ℕ)) (index : ℕ) (x w : Option (List Put)) →
    RecordsStands x w (Entries index 256) (true_bytes digest log (Entries index 256)) →
    RecordsStands x w (Tile 0 index 256) (true_bytes digest log (Tile 0 index 256)) → (path : Path) → IsBelow 0 index path →
    RecordsStands x w path (true_bytes digest log path)
bundle_stands digest log index x w bundle tile path below = elim (below_bundle index path below) [
  | inl is ↦ subst (λ q. RecordsStands x w q (true_bytes digest log q)) (sym is) tile
  | inr is ↦ subst (λ q. RecordsStands x w q (true_bytes digest log q)) (sym is) bundle
]

-- nobody has the bundle
pub bundle_lacked : (digest : List ℕ → List ℕ) (log : List (List ℕ)) {S : Type 0} (may : S → Path → Option (List ℕ) → Type 0)
    (old new : Places S) (x w : Option (List Put)) (index : ℕ) → IsNobodysFile digest log may old new x (Entries index 256) →
    StandsOrNobodys digest log may old new x w (Tile 0 index 256) → GoesBelow digest log may old new x w 0 index
bundle_lacked digest log may old new x w index bundle tile path below =
    elim (below_bundle index path below) [
      | inl is ↦ elim tile [
        | inl there ↦ inl (subst (λ q. RecordsStands x w q (true_bytes digest log q)) (sym is) there)
        | inr n ↦ inr (LacksLeafTile index (subst (IsNobodysFile digest log may old new x) (sym is) n) bundle is)
      ]
      | inr is ↦ inr (LacksBundle index (subst (IsNobodysFile digest log may old new x) (sym is) bundle) is)
    ]

-- ---- the partial bundle

module _ (digest : List ℕ → List ℕ) (hash : IsDigest digest) (log : List (List ℕ)) (short : AreShort log) (edge : Edge)
    (widths : HasWidths edge) (is : IsEdgeTrue digest log edge) (index width : ℕ) (at : index ≡ edge_index_of edge.size 0)
    (wide : width ≡ length (row_at edge 0)) (some : 1 ≤ width) where
  leaves : HasTrueLeaves digest log (Entries index width) (row_at edge 0)
  leaves =
      true_leaves digest log (length log) (omega arith) edge widths
      (subst (λ (l : List (List ℕ)). IsEdgeTrue digest l edge) (sym (take-length log)) is) index width at wide some

  good_end : HasLeaves digest (length (row_at edge 0)) (true_bytes digest log (Entries index width)) (row_at edge 0)
  good_end = subst (λ w. HasLeaves digest w (true_bytes digest log (Entries index width)) (row_at edge 0)) wide (record {
    entries = part (256 * index) width log;
    is_bundle = (served_is_read digest hash log short).bundle index width leaves.1;
    row_is = leaves.2;
  })

  pub end_is : Entries index width ≡ Entries (edge_index_of (length log) 0) (width_of (length log) 0)
  end_is = λ j.
      Entries ((at ∙ ap (λ n. edge_index_of n 0) is.size_is) j)
      ((wide ∙ (widths 0 (omega arith) ∙ ap (λ n. width_of n 0) is.size_is)) j)

  -- the shelf does not have the true one
  pub end_damaged : (before : Option (List Put)) → ((bytes : List ℕ) → IsOwnPart before (Entries index width) bytes →
      HasLeaves digest (length (row_at edge 0)) bytes (row_at edge 0) → ⊥) →
      IsRecorded before (Entries index width) (true_bytes digest log (Entries index width)) → ⊥
  end_damaged before shelf there = shelf (true_bytes digest log (Entries index width)) (inl there) good_end

  pub end_lacked : {S : Type 0} (may : S → Path → Option (List ℕ) → Type 0) (old new : Places S) (before : Option (List Put)) →
      IsEndNowhere digest may old new before (Entries index width) (row_at edge 0) → IsLacked digest log may old new before (Entries index width)
  end_lacked may old new before n =
      let path = Entries index width in
      let row = row_at edge 0 in
      LacksEnd (record {
        shelf = λ own. n.shelf (true_bytes digest log path) own good_end;
        places = parts_weaker may path (λ bytes. HasLeaves digest (length row) bytes row) (λ bytes. bytes ≡ true_bytes digest log path)
            (λ bytes same. subst (λ b. HasLeaves digest (length row) b row) (sym same) good_end) old new n.places;
      }) end_is

-- ---- all files

module _ (digest : List ℕ → List ℕ) (log : List (List ℕ)) (small : length log < 9223372036854775808) {S : Type 0}
    (may : S → Path → Option (List ℕ) → Type 0) (old new : Places S) (x w : Option (List Put))
    (down : GoesDown digest log may old new x w 1)
    (end : 1 ≤ width_of (length log) 0 →
    IsHadOrLacked digest log may old new x w (Entries (edge_index_of (length log) 0) (width_of (length log) 0)))
    (tiles : (level : ℕ) → level ≤ 7 → 1 ≤ width_of (length log) level → let path =
    Tile level (edge_index_of (length log) level) (width_of (length log) level) in
    RecordsHad x w path (true_bytes digest log path)) where
  abbrev n : ℕ
  n = length log

  abbrev HadOrLacked : Path → Type 0
  HadOrLacked path = IsHadOrLacked digest log may old new x w path

  full_gone : (path : Path) (level index : ℕ) → (u : IsUnder n level index) →
      IsBelow (u.top - 1) (256 * edge_index_of n u.top + u.k) path → HadOrLacked path
  full_gone path level index u below = elim (down u.top u.some u.upto u.k u.within path below) [
    | inl there ↦ inl (had_stands x w path (true_bytes digest log path) there)
    | inr lacked ↦ inr lacked
  ]

  tile_gone : (level index width : ℕ) → IsWidestIn n level index width → HadOrLacked (Tile level index width)
  tile_gone level index width file =
      let fits = file.within in
      let upto = fits.upto in
      elim (cases_lt width 256) [
        | inl part ↦
            let at = partial_at n level index width file part in
            let is : Tile level (edge_index_of n level) (width_of n level) ≡ Tile level index width =
            λ j. Tile level (sym at.0 j) (sym at.1 j) in
            let some : 1 ≤ width_of n level = subst (λ k. 1 ≤ k) at.1 fits.some in
            let low : level ≤ 7 = fits.level_fits in
            subst HadOrLacked is (inl (tiles level low some))
        | inr full ↦
            let whole : width ≡ 256 = omega arith in
            let within : (256 * index + 256) * 256 ^ level ≤ n =
            subst (λ k. (256 * index + k) * 256 ^ level ≤ n) whole fits.within in
            let u = full_under n level index small fits.level_fits within in
            full_gone (Tile level index width) level index u (u.lower, u.is, whole)
      ]

  bundle_gone : (index width : ℕ) → IsWidestIn n 0 index width → HadOrLacked (Entries index width)
  bundle_gone index width file =
      let fits = file.within in
      let upto = fits.upto in
      elim (cases_lt width 256) [
        | inl part ↦
            let at = partial_at n 0 index width file part in
            let is : Entries (edge_index_of n 0) (width_of n 0) ≡ Entries index width = λ j. Entries (sym at.0 j) (sym at.1 j) in
            let some : 1 ≤ width_of n 0 = subst (λ k. 1 ≤ k) at.1 fits.some in
            subst HadOrLacked is (end some)
        | inr full ↦
            let whole : width ≡ 256 = omega arith in
            let within : (256 * index + 256) * 256 ^ 0 ≤ n =
            subst (λ k. (256 * index + k) * 256 ^ 0 ≤ n) whole fits.within in
            let u = full_under n 0 index small (omega arith) within in
            let all : u.top - 1 - 0 ≡ u.top - 1 = omega arith in
            full_gone (Entries index width) 0 index u (ap (λ t. index / 256 ^ t) (sym all) ∙ u.is, whole)
      ]

  pub each_gone : (path : Path) → IsTreeFile n path → HadOrLacked path
  each_gone Checkpoint file = absurd file
  each_gone (Tile level index width) file =
      tile_gone level index width ((files_are_all n (Tile level index width)).0 (file_listed n (Tile level index width) file))
  each_gone (Entries index width) file =
      bundle_gone index width ((files_are_all n (Entries index width)).0 (file_listed n (Entries index width) file))

-- ---- the whole call

pub recorded_kept : (a b : Option (List Put)) → KeepsRecord a b → (path : Path) (bytes : List ℕ) → IsRecorded a path bytes →
    IsRecorded b path bytes
recorded_kept None b kept path bytes there = absurd there
recorded_kept (Some xs) None kept path bytes there = absurd kept
recorded_kept (Some xs) (Some ys) kept path bytes there = subst (λ (l : List Put). IsRecorded (Some l) path bytes) (sym kept) there

-- what leads nowhere later did not before
pub nowhere_before : (digest : List ℕ → List ℕ) (a b : Option (List Put)) → KeepsRecord a b → (n : ℕ) (root : List ℕ) →
    LeadsNowhere digest b n root → LeadsNowhere digest a n root
nowhere_before digest a b kept n root none edge from leads =
    none edge (edge_weaker (IsRecorded a) (IsRecorded b) (recorded_kept a b kept) n edge from) leads

-- a partial bundle that is neither at its path, nor begins the full one
pub own_end_none : (digest : List ℕ → List ℕ) (row : List (List ℕ)) (a b : Option (List Put)) → KeepsRecord a b → (path : Path) →
    ((bytes : List ℕ) → IsRecorded a path bytes → HasLeaves digest (length row) bytes row → ⊥) →
    ((full bytes : List ℕ) → IsRecorded b (full_of path) full → IsFileCut path 256 full bytes →
    HasLeaves digest (length row) bytes row → ⊥) →
    (bytes : List ℕ) → IsOwnPart a path bytes → HasLeaves digest (length row) bytes row → ⊥
own_end_none digest row a b kept path none cut bytes (inl there) leaves = none bytes there leaves
own_end_none digest row a b kept path none cut bytes (inr (full, there, is)) leaves =
    cut full bytes (recorded_kept a b kept (full_of path) full there) is leaves

module _ {S : Type 0} (may : S → Path → Option (List ℕ) → Type 0) (failed : S → ℕ) (asked : S → Option (List Path))
    (digest : List ℕ → List ℕ) (log : List (List ℕ)) where
  -- before and after steps that put nothing of another log
  pub over_between : (so also last : Path → Type 0) (x y z w : Places S) → AsksPlaces may failed asked so x y →
      AsksPlaces may failed asked also y z → AsksPlaces may failed asked last z w → (a b c d : Option (List Put)) →
      KeepsRecord a b → PutsTrue digest log c d → GoesOverAll digest log may y z b c → GoesOverAll digest log may x w a d
  over_between so also last x y z w p q r a b c d kept later (inl each) = inl (λ path file. elim (each path file) [
    | inl there ↦
        inl (had_earlier a b d [] path (true_bytes digest log path) (kept_adds a b kept)
        (had_later digest log path file b c d later there))
    | inr lacked ↦
        inr (lacked_between may failed asked digest log so also last x y z w p q r a b (gathers_none digest 0 log a b kept) path lacked)
  ])
  over_between so also last x y z w p q r a b c d kept later (inr edge) = inr (record {
    shelf = edge_wrong_before a b (length log) digest (mth digest log) kept edge.shelf;
    own = nowhere_before digest a b kept (length log) (mth digest log) edge.own;
    places = λ t. edge.places (place_between may failed asked digest log so also last x y z w p q r t);
  })

-- a log without entries has no file
pub over_none : (digest : List ℕ → List ℕ) (log : List (List ℕ)) {S : Type 0} (may : S → Path → Option (List ℕ) → Type 0)
    (old new : Places S) (before after : Option (List Put)) → length log ≡ 0 → GoesOverAll digest log may old new before after
over_none digest log may old new before after none =
    inl (λ path file. absurd (no_file path (subst (λ n. IsTreeFile n path) none file)))

-- nobody has the edge rows
pub over_edge : (digest : List ℕ → List ℕ) (log : List (List ℕ)) (short : AreShort log) {S : Type 0}
    (may : S → Path → Option (List ℕ) → Type 0) (old new : Places S) (before after : Option (List Put)) (size : ℕ) (root : List ℕ) →
    length log ≡ size → mth digest log ≡ root → IsEdgeNowhere digest may old new before size root →
    GoesOverAll digest log may old new before after
over_edge digest log short may old new before after size root long is n = inr (record {
  shelf = subst (λ r. IsEdgeWrong before (length log) digest r) (sym is) (subst (λ m. IsEdgeWrong before m digest root) (sym long) n.shelf);
  own = subst (λ r. LeadsNowhere digest before (length log) r) (sym is) (subst (λ m. LeadsNowhere digest before m root) (sym long) n.own);
  places = n.places log (record {
    short = short;
    upto = omega (arith, long);
    root_is = sym is ∙ ap (mth digest) (sym (ap (λ n. take n log) (sym long) ∙ take-length log));
  });
})

module _ {S : Type 0} (may : S → Path → Option (List ℕ) → Type 0) (digest : List ℕ → List ℕ) (log : List (List ℕ)) (x y z : Places S)
    (same : y.list.items ≡ x.list.items) where
  place_begun : HasTruePlace digest log may x z → HasTruePlace digest log may y z
  place_begun t =
      let p = t.place in
      let k = t.index in
      let none = p.none in
      record {
        index = k;
        place = record {
          none = none;
          listed = subst (λ (l : List (Place S)). k < length l) (sym same) p.listed;
          gives = subst (λ (l : List (Place S)). GivesTrueFiles digest log (may (get_or l k none).source)) (sym same) p.gives;
          asked = subst (λ (l : List (Place S)). (get_or l k none).failures < 8) (sym same) p.asked;
          answers = subst (λ (l : List (Place S)). (get_or z.list.items k none).failures ≡ (get_or l k none).failures) (sym same)
              p.answers;
        };
      }

  nobodys_begun : (a : Option (List Put)) (path : Path) → IsNobodysFile digest log may y z a path →
      IsNobodysFile digest log may x z a path
  nobodys_begun a path n = record {
    shelf = n.shelf;
    places = subst (λ (l : List (Place S)). (k : ℕ) → k < length l → (d : Place S) → IsAskedInVain (may (get_or l k d).source)
        (get_or l k d).failures (get_or z.list.items k d).failures path (λ bytes. bytes ≡ true_bytes digest log path)) same n.places;
  }

  part_begun : (a : Option (List Put)) (path : Path) → IsNobodysPart digest log may y z a path → IsNobodysPart digest log may x z a path
  part_begun a path n = record {
    shelf = n.shelf;
    places = subst (λ (l : List (Place S)). (k : ℕ) → k < length l → (d : Place S) →
        IsPartAskedInVain path (λ bytes. bytes ≡ true_bytes digest log path) (may (get_or l k d).source) (get_or l k d).failures
        (get_or z.list.items k d).failures) same n.places;
  }

  lacked_begun : (a : Option (List Put)) (path : Path) → IsLacked digest log may y z a path → IsLacked digest log may x z a path
  lacked_begun a path (LacksBundle index n is) = LacksBundle index (nobodys_begun a path n) is
  lacked_begun a path (LacksLeafTile index n bundle is) =
      LacksLeafTile index (nobodys_begun a path n) (nobodys_begun a (Entries index 256) bundle) is
  lacked_begun a path (LacksTile level index some n below) =
      LacksTile level index some (nobodys_begun a (Tile level index 256) n) below
  lacked_begun a path (LacksEnd n is) = LacksEnd (part_begun a path n) is

  -- the places of a call before it has begun
  pub over_begun : (a b : Option (List Put)) → GoesOverAll digest log may y z a b → GoesOverAll digest log may x z a b
  over_begun a b (inl each) = inl (λ path file. elim (each path file) [
    | inl there ↦ inl there
    | inr lacked ↦ inr (lacked_begun a path lacked)
  ])
  over_begun a b (inr edge) = inr (record { shelf = edge.shelf; own = edge.own; places = λ t. edge.places (place_begun t) })

-- a fault that is not about a missing file
pub at_spared : (T : Type 0) (e : BringFault) (claim : Type 0) → IsSpared e → AtOkOrLack {T = T} (Err e) claim
at_spared T BadCheckpoint claim h = tt
at_spared T CopyDamaged claim h = tt
at_spared T NotLarger claim h = tt
at_spared T Contradiction claim h = tt
at_spared T Collision claim h = tt
at_spared T NoFile claim h = absurd h
at_spared T Source claim h = absurd h
at_spared T CopyInUse claim h = tt
at_spared T ShelfFault claim h = tt
at_spared T OutOfMemory claim h = tt

-- the fault after nobody had a file
pub at_lack : {S : Type 0} (T : Type 0) (places : Places S) (e : BringFault) (claim : Type 0) → IsLack places e → claim →
    AtOkOrLack {T = T} (Err e) claim
at_lack T places e claim (inl h) there = subst (λ (f : BringFault). AtOkOrLack {T = T} (Err f) claim) (sym h.1) there
at_lack T places e claim (inr h) there = subst (λ (f : BringFault). AtOkOrLack {T = T} (Err f) claim) (sym h.1) there

pub none_any : {T : Type 0} (o : Option T) (Q : Type 0) → Q → IfNone o Q
none_any None Q h = h
none_any (Some x) Q h = tt
