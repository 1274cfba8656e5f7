-- A full bundle that verifies.
use Rattle.std.proofs.Common.{◌≡◌, ◌⊎◌, ℕ, ◌+◌, ◌-◌, ◌*◌, ◌/◌, ◌^◌, ◌≤◌, ◌<◌, List, [], ◌∷◌, ◌++◌, length}
use Rattle.std.proofs.Common.{take, drop, map, Option, sym, ap, subst, ◌∙◌, arith, length-append, inl, inr}
use Rattle.std.proofs.Math.Nat.{div-mul-le_self, lt-div-mul-add}
use Rattle.std.proofs.lemmas.Bool.{cases_lt}
use Rattle.std.proofs.lemmas.List.{take-append-drop, length-take-le, length-drop, take_all, drop_all, drop-append-le}
use Rattle.std.proofs.lemmas.List.Elements.{All-take, All-drop}
use Rattle.std.proofs.lemmas.List.Concat.{flat_map-append}
use Rattle.tlog_shape.specs.Edge.{width_of, edge_index_of}
use Rattle.tlog_hash.specs.Rows.{part, level_row}
use Rattle.tlog_hash.specs.Tree.{fold_of, leaf_hash, mth}
use Rattle.tlog_hash.proofs.LeafRanges.{rows_of_leaves}
use Rattle.tlog_tiles.specs.declared.paths.Path.TheVariants.{Tile, Entries}
use Rattle.tlog_tiles.specs.Bundle.{bundle_text, entry_text}
use Rattle.tlog_tiles.specs.Row.{row_text}
use Rattle.tlog_tiles.specs.Tiles.{IsTileWithin}
use Rattle.tlog_tiles.proofs.BundleLemmas.{bundle_one}
use Rattle.tlog_tiles.proofs.EdgeLemmas.{hashes_of}
use Rattle.tlog_tiles.proofs.TileLemmas.{row_folds}
use Rattle.mirror_model.specs.TrueLaws.{AreShort}
use Rattle.mirror_sources.specs.Recorded.{KeepsRecord, AddsToRecord}
use Rattle.mirror_folders.specs.Shelf.{Put}
use Rattle.log_reader.specs.Verified.{HasLeaves}
use Rattle.copy_follow.proofs.Growth.{gathers_keep, gathers_more, gathers_then, kept_adds}
use Rattle.copy_follow.proofs.Below.{below_bundle, stands_gathered, records_earlier}
use Rattle.copy_follow.specs.Standing.{RecordsStands}
use Rattle.mirror_sources.specs.Honest.{true_bytes}
use Rattle.copy_follow.specs.Growing.{IsNewFile, Obtains, HoldsBelow, IsKnown, IsBrought, IsCutShort, Tip}

module _ (digest : List ℕ → List ℕ) (tip : Tip) (index width : ℕ) (some_width : 1 ≤ width) (wide : width ≤ 256)
    (known : List (List ℕ)) (is : IsKnown digest tip (index * 256) known) (beyond : tip.size < 256 * index + width)
    (bytes : List ℕ) (row : List (List ℕ)) (v : HasLeaves digest width bytes row)
    (goes_on : index ≡ edge_index_of tip.size 0 → take (length tip.bundle) bytes ≡ tip.bundle) where
  abbrev front : List (List ℕ)
  front = drop (256 * index) known

  abbrev k : ℕ
  k = length front

  abbrev more : List (List ℕ)
  more = drop k v.entries

  abbrev pub next : List (List ℕ)
  next = known ++ more

  front_size : k ≡ length known - 256 * index
  front_size = length-drop (256 * index) known

  from_start : 256 * index ≤ length known
  from_start = let size = is.size_is in omega arith

  below_end : length known ≤ 256 * index + width
  below_end = let size = is.size_is in omega arith

  k_below : k ≤ width
  k_below = omega (arith, front_size, below_end, from_start)

  -- the bundle begins with the known entries
  begins : (rest : List ℕ) × (bytes ≡ bundle_text front ++ rest)
  begins = elim (cases_lt (256 * index) (length known)) [
    | inr none ↦
        let empty : front ≡ [] = drop_all (256 * index) known none in
        (bytes, ap (λ (l : List (List ℕ)). bundle_text l ++ bytes) (sym empty))
    | inl some ↦
        let size = is.size_is in
        let at_m : length known ≡ tip.size = omega arith in
        let upto : edge_index_of tip.size 0 * 256 ≤ tip.size = div-mul-le_self tip.size 256 in
        let past : tip.size < edge_index_of tip.size 0 * 256 + 256 = lt-div-mul-add (omega arith) in
        let place : index ≡ edge_index_of tip.size 0 = omega arith in
        let rest = drop (length tip.bundle) bytes in
        let there : bytes ≡ tip.bundle ++ rest = sym (take-append-drop (length tip.bundle) bytes)
        ∙ ap (λ (l : List ℕ). l ++ rest) (goes_on place) in
        let hashes : 256 * edge_index_of tip.size 0 + width_of tip.size 0 ≡ tip.size / 1 = hashes_of tip.size 0 in
        let whole : tip.size / 1 ≡ tip.size = omega arith in
        let width : width_of tip.size 0 ≡ k = omega (arith, hashes, whole, front_size, place, at_m) in
        let same : part (256 * edge_index_of tip.size 0) (width_of tip.size 0) known ≡ front =
        ap (λ n. part (256 * n) (width_of tip.size 0) known) (sym place)
        ∙ take_all (width_of tip.size 0) front (omega (arith, width)) in
        (rest, there ∙ ap (λ (l : List ℕ). l ++ rest) (is.bundle_is ∙ ap bundle_text same))
  ]

  short_front : AreShort front
  short_front = All-drop (λ (e : List ℕ). length e < 2 ^ 16) (256 * index) known is.short

  pub short_more : AreShort more
  short_more = All-drop (λ (e : List ℕ). length e < 2 ^ 16) k v.entries v.is_bundle.fits

  same_front : take k v.entries ≡ front
  same_front =
      let b = v.is_bundle in
      let count = b.count in
      let long : length (take k v.entries) ≡ k = length-take-le k v.entries (omega (arith, k_below)) in
      let split : bundle_text v.entries ≡ bundle_text (take k v.entries) ++ bundle_text more =
      ap bundle_text (sym (take-append-drop k v.entries)) ∙ flat_map-append entry_text (take k v.entries) more in
      (bundle_one (take k v.entries) front (bundle_text more) begins.0 long
      (All-take (λ (e : List ℕ). length e < 2 ^ 16) k v.entries b.fits) short_front
      (sym split ∙ (sym b.text ∙ begins.1))).0

  pub long_next : length next ≡ 256 * index + width
  long_next =
      let count = v.is_bundle.count in
      omega (arith, length-append known more, length-drop k v.entries, front_size, from_start, k_below)

  pub part_is : part (256 * index) width next ≡ v.entries
  part_is =
      let count = v.is_bundle.count in
      ap (take width) (drop-append-le (256 * index) known more from_start
      ∙ (ap (λ (l : List (List ℕ)). l ++ more) (sym same_front) ∙ take-append-drop k v.entries))
      ∙ take_all width v.entries (omega arith)

  pub row_is : row ≡ level_row digest next 0 (256 * index) width
  row_is = v.row_is ∙ (ap (map (leaf_hash digest)) (sym part_is)
      ∙ sym (rows_of_leaves digest width (256 * index) next (omega (arith, long_next))))

  pub hash_is : (hash : List ℕ) → fold_of digest row ≡ hash → hash ≡ mth digest (part (index * 256) width next)
  hash_is hash folds =
      let within : (256 * index + width) * 256 ^ 0 ≤ length next = omega (arith, long_next) in
      let from : 256 * index * 256 ^ 0 ≡ index * 256 = omega arith in
      let len : width * 256 ^ 0 ≡ width = omega arith in
      sym folds ∙ (ap (fold_of digest) row_is ∙ (row_folds digest next 0 (256 * index) width some_width within
      ∙ ((λ j. mth digest (part (from j) (len j) next)))))

  within_next : IsTileWithin (length next) 0 index width
  within_next = record {
    level_fits = omega arith;
    some = some_width;
    upto = wide;
    within = omega (arith, long_next);
  }

  not_old : IsTileWithin tip.size 0 index width → ⊥
  not_old h = let within : (256 * index + width) * 1 ≤ tip.size = h.within in omega (arith, beyond)

  pub new_bundle : IsNewFile digest tip.size next (Entries index width, bytes)
  new_bundle = record {
    new = not_old;
    within = within_next;
    bytes_are = v.is_bundle.text ∙ ap bundle_text (sym part_is);
  }

  pub new_tile : (text : List ℕ) → text ≡ row_text row → IsNewFile digest tip.size next (Tile 0 index width, text)
  new_tile text h = record {
    new = not_old;
    within = within_next;
    bytes_are = h ∙ ap row_text row_is;
  }

  module _ (x y z : Option (List Put)) (kept : KeepsRecord x y)
      (puts : (KeepsRecord y z) ⊎ (AddsToRecord y z ((Entries index width, bytes) ∷ []))) where
    pub gathers_bundle : Obtains digest tip.size known next x z
    gathers_bundle = gathers_then digest tip.size known next next x y z
        (gathers_more digest tip.size known more x y short_more kept)
        (gathers_keep digest tip.size next y z (Entries index width, bytes) puts new_bundle)

    pub bundle_left : IsCutShort digest tip.size known x z
    bundle_left = record { next = next; gathers = gathers_bundle }

    pub bundle_there : RecordsStands y z (Entries index width) bytes →
        RecordsStands x z (Entries index width) (true_bytes digest next (Entries index width))
    bundle_there there = subst (λ b. RecordsStands x z (Entries index width) b) new_bundle.bytes_are
        (records_earlier x y z [] (Entries index width) bytes (kept_adds x y kept) there)

    module _ (w : Option (List Put)) (text : List ℕ) (text_is : text ≡ row_text row)
        (more_puts : (KeepsRecord z w) ⊎ (AddsToRecord z w ((Tile 0 index width, text) ∷ []))) where
      gathers_tile : Obtains digest tip.size next next z w
      gathers_tile = gathers_keep digest tip.size next z w (Tile 0 index width, text) more_puts (new_tile text text_is)

      gathers_all : Obtains digest tip.size known next x w
      gathers_all = gathers_then digest tip.size known next next x z w gathers_bundle gathers_tile

      pub tile_left : IsCutShort digest tip.size known x w
      tile_left = record { next = next; gathers = gathers_all }

      pub bundle_stands : RecordsStands y z (Entries index width) bytes →
          RecordsStands x w (Entries index width) (true_bytes digest next (Entries index width))
      bundle_stands there =
          stands_gathered digest tip.size next next x z w (Entries index width) gathers_tile within_next
          (bundle_there there)

      pub tile_stands : RecordsStands z w (Tile 0 index width) text →
          RecordsStands x w (Tile 0 index width) (true_bytes digest next (Tile 0 index width))
      tile_stands there =
          subst (λ b. RecordsStands x w (Tile 0 index width) b) (new_tile text text_is).bytes_are
          (records_earlier x z w gathers_bundle.puts (Tile 0 index width) text gathers_bundle.recorded there)

      holds : width ≡ 256 → RecordsStands y z (Entries index width) bytes → RecordsStands z w (Tile 0 index width) text →
          HoldsBelow digest tip.size 0 index next x w
      holds full there row_there path below new =
          elim (below_bundle index path below) [
            | inl tile ↦
                let at : path ≡ Tile 0 index width = tile ∙ ap (λ n. Tile 0 index n) (sym full) in
                subst (λ p. RecordsStands x w p (true_bytes digest next p)) (sym at) (tile_stands row_there)
            | inr bundle ↦
                let at : path ≡ Entries index width = bundle ∙ ap (λ n. Entries index n) (sym full) in
                subst (λ p. RecordsStands x w p (true_bytes digest next p)) (sym at) (bundle_stands there)
          ]

      pub bundle_brought : width ≡ 256 → (hash : List ℕ) → fold_of digest row ≡ hash →
          RecordsStands y z (Entries index width) bytes → RecordsStands z w (Tile 0 index width) text →
          IsBrought digest tip 0 index hash known x w
      bundle_brought full hash folds there row_there = record {
        next = next;
        gathers = gathers_all;
        size_is = long_next ∙ omega arith;
        hash_is = hash_is hash folds ∙ ap (λ n. mth digest (part (index * 256) n next)) full;
        holds = holds full there row_there;
      }
