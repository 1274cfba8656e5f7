-- Files mended one after another: how many were put, from where they were taken, and that they are true.
use Rattle.std.proofs.Common.{◌≡◌, ◌≢◌, ◌⊎◌, ℕ, ◌+◌, ◌*◌, ◌^◌, ◌<◌, ◌≤◌, max, List, [], ◌∷◌, ◌++◌, length}
use Rattle.std.proofs.Common.{inl, inr, Option, Some, None, refl, sym, ap, subst, ◌∙◌, arith, length-append}
use Rattle.std.proofs.lemmas.Nat.{mul-le}
use Rattle.std.proofs.lemmas.List.{length-map}
use Rattle.std.specs.FinSet as set
use Rattle.std.specs.List.{Contains}
use Rattle.std.proofs.lemmas.List.Elements.{All-append, All-cons, All-contains, All-nil, Contains-append_cases, Contains-append_left}
use Rattle.tlog_shape.proofs.Levels.{level_positive}
use Rattle.tlog_hash.specs.Rows.{level_row, part}
use Rattle.tlog_hash.specs.Tree.{joins, leaf_hash, strings}
use Rattle.tlog_tiles.specs.Bundle.{IsBundle, bundle_text}
use Rattle.tlog_tiles.specs.Row.{IsRow, row_text}
use Rattle.tlog_tiles.specs.declared.paths.Path.{Path}
use Rattle.tlog_tiles.specs.declared.paths.Path.TheVariants.{Checkpoint, Tile, Entries}
use Rattle.tlog_tiles.specs.Tiles.{IsTileWithin, IsWithin}
use Rattle.node_store.specs.Strings.{NoClash}
use Rattle.mirror_model.specs.Strings.{IsDigest}
use Rattle.mirror_model.proofs.StringSets.{has_from_listed, listed_from_has, no_clash_within}
use Rattle.mirror_sources.specs.Recorded.{AddsToRecord, KeepsRecord}
use Rattle.mirror_folders.specs.Shelf.{HasPut, Put, RecordsRead, Stands}
use Rattle.mirror_sources.specs.Files.{full_of, width_named}
use Rattle.log_reader.specs.Holding.{GoesOn}
use Rattle.log_reader.specs.Verified.{Verifies}
use Rattle.log_reader.specs.declared.verify.FullFile.TheVariants as kind
use Rattle.copy_places.specs.PlaceGets.{AsksPlaces}
use Rattle.copy_places.specs.declared.places.Places.{Places}
use Rattle.log_reader.proofs.TrueReads.{row_is_true}
use Rattle.copy_places.proofs.Asking.{asks_then}
use Rattle.copy_places.proofs.Giving.{given_before}
use Rattle.copy_follow.specs.Growing.{IsKnown, IsNewFile, IsRowBrought, empty_tip}
use Rattle.copy_follow.specs.Repaired.{AreFullsClear, AreLeafTilesClear, CountsPuts, IsClearLog, IsTreeClear, Mends, PutsTrue, RecordsHad}
use Rattle.copy_follow.specs.Suffices.{IsTileHash, IsTileRow}
use Rattle.copy_follow.specs.Taken.{FilesAreClear, IsLeafTile, IsRowClear, MayTake, PutsTaken, WasPut}
use Rattle.copy_follow.proofs.Growth.{adds_then, gathers_none, kept_adds, kept_same}
use Rattle.copy_follow.proofs.OnePlace.{clear_later, puts_also, puts_none, puts_then}
use Rattle.copy_follow.proofs.Spared.{bundle_true, tile_true}
use Rattle.copy_follow.proofs.TileRows.{place_of}
use Rattle.copy_follow.proofs.TrueRows.{row_within}

-- ---- counting

pub counts_none : (from to : ℕ) (a b : Option (List Put)) → to ≡ from → KeepsRecord a b → CountsPuts from to a b
counts_none from to a b same kept = record {
  puts = [];
  recorded = kept_adds a b kept;
  no_checkpoint = All-nil (λ (put : Put). put.0 ≢ Checkpoint);
  counted = λ small. omega (arith, same);
}

pub counts_one : (from to : ℕ) (a b : Option (List Put)) (path : Path) (bytes : List ℕ) → path ≢ Checkpoint →
    (from + 1 < 2 ^ 64 → to ≡ from + 1) → AddsToRecord a b ((path, bytes) ∷ []) → CountsPuts from to a b
counts_one from to a b path bytes other more recorded = record {
  puts = (path, bytes) ∷ [];
  recorded = recorded;
  no_checkpoint = All-cons (λ (put : Put). put.0 ≢ Checkpoint) (path, bytes) [] other (All-nil (λ (put : Put). put.0 ≢ Checkpoint));
  counted = λ small. more small;
}

pub counts_then : (from mid to : ℕ) (a b c : Option (List Put)) → CountsPuts from mid a b → CountsPuts mid to b c →
    CountsPuts from to a c
counts_then from mid to a b c p q = record {
  puts = p.puts ++ q.puts;
  recorded = adds_then a b c p.puts q.puts p.recorded q.recorded;
  no_checkpoint = All-append (λ (put : Put). put.0 ≢ Checkpoint) p.puts q.puts p.no_checkpoint q.no_checkpoint;
  counted = λ small.
      let long : length (p.puts ++ q.puts) ≡ length p.puts + length q.puts = length-append p.puts q.puts in
      let first : mid ≡ from + length p.puts = p.counted (omega (arith, small, long)) in
      let second : to ≡ mid + length q.puts = q.counted (omega (arith, small, long, first)) in
      omega (arith, first, second, long);
}

module _ {S : Type 0} (may : S → Path → Option (List ℕ) → Type 0) (failed : S → ℕ) (asked : S → Option (List Path))
    (so : Path → Type 0) where
  pub mends_none : (x y : Places S) (a b : Option (List Put)) (from to : ℕ) → AsksPlaces may failed asked so x y → KeepsRecord a b →
      to ≡ from → Mends may failed asked so x y a b from to
  mends_none x y a b from to asks kept same = record {
    asks = asks;
    taken = puts_none may failed asked x a b kept;
    counts = counts_none from to a b same kept;
  }

  pub mends_put : (x y : Places S) (a b c : Option (List Put)) (from mid to : ℕ) (path : Path) (bytes : List ℕ) →
      Mends may failed asked so x y a b from mid → (KeepsRecord b c) ⊎ (AddsToRecord b c ((path, bytes) ∷ [])) →
      IsLeafTile path ⊎ MayTake may x a path bytes → CountsPuts mid to b c → Mends may failed asked so x y a c from to
  mends_put x y a b c from mid to path bytes m puts taken counts = record {
    asks = m.asks;
    taken = puts_also may failed asked x a b c path bytes m.taken puts taken;
    counts = counts_then from mid to a b c m.counts counts;
  }

  pub mends_then : (x y z : Places S) (a b c : Option (List Put)) (from mid to : ℕ) → Mends may failed asked so x y a b from mid →
      Mends may failed asked so y z b c mid to → Mends may failed asked so x z a c from to
  mends_then x y z a b c from mid to m n = record {
    asks = asks_then may failed asked so x y z m.asks n.asks;
    taken = puts_then may failed asked so x y m.asks a b c m.taken n.taken;
    counts = counts_then from mid to a b c m.counts n.counts;
  }

-- ---- what is not within an empty log

none_within : (level index width : ℕ) → IsTileWithin 0 level index width → ⊥
none_within level index width h =
    let some = h.some in
    let within = h.within in
    let less : 1 * 256 ^ level ≤ (256 * index + width) * 256 ^ level =
    mul-le 1 (256 ^ level) (256 * index + width) (256 ^ level) (omega arith) (omega arith) in
    omega (arith, less, within, level_positive level)

pub never_within : (path : Path) → IsWithin 0 path → ⊥
never_within Checkpoint h = h
never_within (Tile level index width) h = none_within level index width h
never_within (Entries index width) h = none_within 0 index width h

pub past_none : (level index : ℕ) → 0 < (index + 1) * 256 ^ level
past_none level index =
    let less : 1 * 256 ^ level ≤ (index + 1) * 256 ^ level =
    mul-le 1 (256 ^ level) (index + 1) (256 ^ level) (omega arith) (omega arith) in
    omega (arith, less, level_positive level)

-- ---- true files

module _ (digest : List ℕ → List ℕ) (hash : IsDigest digest) (log : List (List ℕ)) where
  pub true_tile : (level index : ℕ) → level ≤ 7 → (bytes : List ℕ) (row : List (List ℕ)) → bytes ≡ row_text row → length row ≡ 256 →
      IsTileRow digest log level index row → IsNewFile digest 0 log (Tile level index 256, bytes)
  true_tile level index low bytes row text count is = record {
    new = never_within (Tile level index 256);
    within = record {
      level_fits = low;
      some = omega arith;
      upto = omega arith;
      within = subst (λ w. (256 * index + w) * 256 ^ level ≤ length log) count is.within;
    };
    bytes_are = text ∙ ap row_text (is.is ∙ ap (λ w. level_row digest log level (256 * index) w) count);
  }

  pub true_bundle : (index : ℕ) (bytes : List ℕ) (es : List (List ℕ)) → IsBundle 256 bytes es → es ≡ part (256 * index) 256 log →
      256 * index + 256 ≤ length log → IsNewFile digest 0 log (Entries index 256, bytes)
  true_bundle index bytes es b is fits = record {
    new = never_within (Entries index 256);
    within = record {
      level_fits = omega arith;
      some = omega arith;
      upto = omega arith;
      within = omega (arith, fits);
    };
    bytes_are = b.text ∙ ap bundle_text is;
  }

  module _ (may : Path → List ℕ → Type 0) (clear : FilesAreClear digest log may) where
    pub row_found : (level index : ℕ) → 1 ≤ level → (value bytes : List ℕ) (row : List (List ℕ)) → may (Tile level index 256) bytes →
        Verifies digest kind.Tile value bytes row → IsTileHash digest log level index value → IsTileRow digest log level index row
    row_found level index some value bytes row taken v is =
        tile_true digest hash log level index value bytes row v is (clear.tile level index some bytes row taken v.is_row)

    pub bundle_found : (index : ℕ) (value bytes : List ℕ) (row : List (List ℕ)) → may (Entries index 256) bytes →
        Verifies digest kind.Bundle value bytes row → IsTileHash digest log 0 index value →
        IsNewFile digest 0 log (Entries index 256, bytes)
        × ((text : List ℕ) → text ≡ row_text row → IsNewFile digest 0 log (Tile 0 index 256, text))
    bundle_found index value bytes row taken v is =
        let b = v.is_row.is_bundle in
        let clean = clear.bundle index 256 bytes v.is_row.entries (inl taken) b in
        let true = bundle_true digest hash log index value bytes row v is clean in
        let fits = is.within in
        let leaves = v.is_row.row_is in
        let count : length row ≡ 256 = ap length leaves ∙ (length-map v.is_row.entries (leaf_hash digest) ∙ b.count) in (
          true_bundle index bytes v.is_row.entries b true.1 (omega (arith, fits)),
          λ text text_is. true_tile 0 index (omega arith) text row text_is count true.0,
        )

  pub leaf_tile_found : (may : Path → List ℕ → Type 0) → AreLeafTilesClear digest log may → (index : ℕ) (value bytes : List ℕ)
      (row : List (List ℕ)) → may (Tile 0 index 256) bytes → Verifies digest kind.Tile value bytes row →
      IsTileHash digest log 0 index value → IsNewFile digest 0 log (Tile 0 index 256, bytes)
  leaf_tile_found may clear index value bytes row taken v is =
      true_tile 0 index (omega arith) bytes row v.is_row.text v.is_row.count
      (tile_true digest hash log 0 index value bytes row v is (clear index bytes row taken v.is_row))

-- ---- full files that may be taken while true files are put

pub fulls_clear : (digest : List ℕ → List ℕ) (log : List (List ℕ)) (may : Path → List ℕ → Type 0) → IsTreeClear digest log →
    IsClearLog digest log may → AreFullsClear digest log may
fulls_clear digest log may tree clear = record { tree = tree; files = clear.files; leaf_tiles = clear.leaf_tiles }

-- fewer strings do not clash either
pub tree_clear : (digest : List ℕ → List ℕ) (log more : List (List ℕ)) → NoClash digest (set.from_list (strings digest log ++ more)) →
    IsTreeClear digest log
tree_clear digest log more clear =
    let tree = strings digest log in
    no_clash_within digest (set.from_list tree) (set.from_list (tree ++ more))
    (λ q has. has_from_listed (tree ++ more) q (Contains-append_left tree more q (listed_from_has tree q has))) clear

-- the strings of a row of the log
row_clear : (digest : List ℕ → List ℕ) (log : List (List ℕ)) → IsTreeClear digest log → (index : ℕ) →
    256 * index + 256 ≤ length log → IsRowClear digest log (level_row digest log 0 (256 * index) 256)
row_clear digest log clear index fits =
    let tree = strings digest log in
    let more = joins digest (level_row digest log 0 (256 * index) 256) in
    no_clash_within digest (set.from_list (tree ++ more)) (set.from_list tree)
    (λ q has. has_from_listed tree q (elim (Contains-append_cases tree more q (listed_from_has (tree ++ more) q has)) [
      | inl there ↦ there
      | inr joined ↦ row_within digest log 0 index (omega (arith, fits)) q joined
    ])) clear

module _ {S : Type 0} (may : S → Path → Option (List ℕ) → Type 0) (failed : S → ℕ) (asked : S → Option (List Path))
    (so : Path → Type 0) (x y : Places S) (p : AsksPlaces may failed asked so x y) (digest : List ℕ → List ℕ) (hash : IsDigest digest)
    (log : List (List ℕ)) where
  leaf_tile_put : (a b : Option (List Put)) → PutsTrue digest log a b → IsTreeClear digest log →
      AreLeafTilesClear digest log (MayTake may x a) → (index : ℕ) (bytes : List ℕ) (row : List (List ℕ)) →
      WasPut b (Tile 0 index 256) bytes → IsRow 256 bytes row → IsRowClear digest log row
  leaf_tile_put None b g tree clear index bytes row put is = clear index bytes row (inl tt) is
  leaf_tile_put (Some us) None g tree clear index bytes row put is = absurd g.recorded
  leaf_tile_put (Some us) (Some vs) g tree clear index bytes row put is =
      let file : Put = (Tile 0 index 256, bytes) in
      elim (Contains-append_cases us g.puts file (subst (λ (l : List Put). Contains l file) g.recorded put)) [
        | inl old ↦ clear index bytes row (inl old) is
        | inr new ↦
            let true = All-contains (IsNewFile digest 0 log) g.puts file g.are_new new in
            let within = true.within in
            let fits = within.within in
            subst (λ (r : List (List ℕ)). IsRowClear digest log r)
            (sym (row_is_true digest hash log 0 index 256 bytes row true.bytes_are is))
            (row_clear digest log tree index (omega (arith, fits)))
      ]

  pub fulls_later : (a b : Option (List Put)) → PutsTaken may x a b → PutsTrue digest log a b →
      AreFullsClear digest log (MayTake may x a) → AreFullsClear digest log (MayTake may y b)
  fulls_later a b t g c = record {
    tree = c.tree;
    files = clear_later may failed asked so x y p digest log a b t c.files;
    leaf_tiles = λ index bytes row taken is. elim taken [
      | inl put ↦ leaf_tile_put a b g c.tree c.leaf_tiles index bytes row put is
      | inr given ↦ c.leaf_tiles index bytes row (inr (given_before may failed asked so x y (Tile 0 index 256) bytes p given)) is
    ];
  }

-- ---- rows of which nothing is known before

module _ (level index : ℕ) (digest : List ℕ → List ℕ) (row known : List (List ℕ)) where
  pub row_first : (x : Option (List Put)) → IsKnown digest empty_tip (index * 256 ^ (level + 1)) known →
      IsRowBrought digest empty_tip level index row known x x 0
  row_first x is = record {
    next = known;
    gathers = gathers_none digest 0 known x x (kept_same x);
    size_is = is.size_is ∙ ap (λ n. max 0 n) (place_of level index ∙ ap (λ k. k * 256 ^ level) (omega arith));
    row_is = refl;
    holds = λ k lt. absurd (omega (arith, lt));
  }

-- ---- a full file that begins with the bytes of its partial one

pub had_way : (a b c : Option (List Put)) (path : Path) (bytes full : List ℕ) → width_named path < 256 → RecordsRead a path None →
    KeepsRecord a b → RecordsRead b (full_of path) (Some full) → KeepsRecord b c → GoesOn path bytes full → RecordsHad a c path bytes
had_way None b c path bytes full part none kept read last begins = tt
had_way (Some xs) None c path bytes full part none kept read last begins = absurd kept
had_way (Some xs) (Some ys) None path bytes full part none kept read last begins = absurd last
had_way (Some xs) (Some ys) (Some zs) path bytes full part none kept read last begins = inr (record {
  partial = part;
  gone = λ has. none (subst (λ (l : List Put). HasPut l path) (last ∙ kept) has);
  full = full;
  stands = subst (λ (l : List Put). Stands l (full_of path) full) (sym last) read;
  begins = begins;
})
