-- The true files of a log verify, so a place that gives them gives a good answer.
use Rattle.std.proofs.Common.{◌≡◌, ◌⊎◌, inl, inr, ℕ, ◌*◌, ◌^◌, ◌<◌, ◌≤◌, List, length, map, get_or, Option, Some, None, refl, sym, subst, ◌∙◌, ap, arith}
use Rattle.std.specs.Prelude.{IfSome}
use Rattle.tlog_hash.specs.Tree.{fold_of, leaf_hash, mth}
use Rattle.tlog_hash.specs.Rows.{level_row, part}
use Rattle.tlog_hash.proofs.LeafRanges.{rows_of_leaves}
use Rattle.tlog_tiles.specs.declared.paths.Path.{Path}
use Rattle.tlog_tiles.specs.declared.paths.Path.TheVariants.{Checkpoint, Tile, Entries}
use Rattle.tlog_tiles.specs.Tiles.{IsWithin, bundle_bytes, tile_bytes}
use Rattle.tlog_tiles.proofs.TileLemmas.{row_folds, served_is_read}
use Rattle.mirror_model.specs.Strings.{IsDigest}
use Rattle.mirror_model.specs.TrueLaws.{AreShort}
use Rattle.mirror_sources.specs.Honest.{true_bytes}
use Rattle.mirror_sources.specs.Files.{width_named}
use Rattle.log_reader.specs.Verified.{Verifies}
use Rattle.log_reader.specs.declared.verify.FullFile.{FullFile}
use Rattle.log_reader.specs.declared.verify.FullFile.TheVariants as kind
use Rattle.copy_places.specs.Asked.{IsAskedInVain}
use Rattle.copy_places.specs.PlaceGets.{AsksPlaces}
use Rattle.copy_places.specs.TruePlaces.{GivesTrueFiles, HasTruePlace, IsFileUnder, IsTruePlace}
use Rattle.copy_places.specs.declared.place.Place.{Place}
use Rattle.copy_places.specs.declared.places.Places.{Places}

module _ (digest : List ℕ → List ℕ) (is_digest : IsDigest digest) (entries : List (List ℕ)) (short : AreShort entries) where
  abbrev Good : FullFile → List ℕ → List ℕ → Type 0
  Good kind hash bytes = (row : List (List ℕ)) × Verifies digest kind hash bytes row

  tile_good : (level index : ℕ) (hash : List ℕ) → IsWithin (length entries) (Tile level index 256) →
      hash ≡ mth digest (part (256 * index * 256 ^ level) (256 * 256 ^ level) entries) →
      Good kind.Tile hash (tile_bytes digest entries level index 256)
  tile_good level index hash within is = (
    level_row digest entries level (256 * index) 256,
    record {
      is_row = (served_is_read digest is_digest entries short).tile level index 256;
      folds = row_folds digest entries level (256 * index) 256 (omega arith) within.within ∙ sym is;
    },
  )

  bundle_good : (index : ℕ) (hash : List ℕ) → IsWithin (length entries) (Entries index 256) →
      hash ≡ mth digest (part (256 * index * 256 ^ 0) (256 * 256 ^ 0) entries) →
      Good kind.Bundle hash (bundle_bytes entries index 256)
  bundle_good index hash within is =
      let fits = within.within in
      let row = map (leaf_hash digest) (part (256 * index) 256 entries) in
      let same : level_row digest entries 0 (256 * index) 256 ≡ row =
      rows_of_leaves digest 256 (256 * index) entries (omega (arith, fits)) in (
        row,
        record {
          is_row = record {
            entries = part (256 * index) 256 entries;
            is_bundle = (served_is_read digest is_digest entries short).bundle index 256 within;
            row_is = refl;
          };
          folds = ap (fold_of digest) (sym same) ∙ (row_folds digest entries 0 (256 * index) 256 (omega arith) fits ∙ sym is);
        },
      )

  module _ (may : Path → Option (List ℕ) → Type 0) (gives : GivesTrueFiles digest entries may) where
    -- an answer for a full file is its true bytes
    true_vain : (kind : FullFile) (path : Path) (hash : List ℕ) → IsWithin (length entries) path →
        width_named path ≡ 256 → Good kind hash (true_bytes digest entries path) → (answer : Option (List ℕ)) →
        may path answer → IfSome answer (λ bytes. Good kind hash bytes → ⊥) → ⊥
    true_vain kind path hash within full good None h vain =
        let gone = gives path within None h in omega (arith, full, gone.partial)
    true_vain kind path hash within full good (Some bytes) h vain =
        vain (subst (Good kind hash) (sym (gives path within (Some bytes) h)) good)

    by_path : (kind : FullFile) (path : Path) (hash : List ℕ) → IsFileUnder digest entries kind path hash →
        (answer : Option (List ℕ)) → may path answer → IfSome answer (λ bytes. Good kind hash bytes → ⊥) → ⊥
    by_path kind.Tile Checkpoint hash is answer h vain = is
    by_path kind.Tile (Entries index width) hash is answer h vain = is
    by_path kind.Bundle Checkpoint hash is answer h vain = is
    by_path kind.Bundle (Tile level index width) hash is answer h vain = is
    by_path kind.Tile (Tile level index width) hash is answer h vain =
        true_vain kind.Tile (Tile level index 256) hash is.1 refl (tile_good level index hash is.1 is.2) answer
        (subst (λ w. may (Tile level index w) answer) is.0 h) vain
    by_path kind.Bundle (Entries index width) hash is answer h vain =
        true_vain kind.Bundle (Entries index 256) hash is.1 refl (bundle_good index hash is.1 is.2) answer
        (subst (λ w. may (Entries index w) answer) is.0 h) vain

    pub not_in_vain : (kind : FullFile) (path : Path) (hash : List ℕ) → IsFileUnder digest entries kind path hash →
        (old new : ℕ) → IsAskedInVain may old new path (Good kind hash) → (old < new) ⊎ (8 ≤ old)
    not_in_vain kind path hash is old new (inl failed) = failed
    not_in_vain kind path hash is old new (inr v) = absurd (by_path kind path hash is v.0 v.1 v.2)

-- if one of the places gives only true files, that place gives a good answer
pub not_all_in_vain : (digest : List ℕ → List ℕ) → IsDigest digest → (entries : List (List ℕ)) → AreShort entries →
    (kind : FullFile) (path : Path) (hash : List ℕ) → IsFileUnder digest entries kind path hash → {S : Type 0}
    (may : S → Path → Option (List ℕ) → Type 0) (old new : Places S) → HasTruePlace digest entries may old new →
    ((k : ℕ) (d : Place S) → k < length old.list.items → IsAskedInVain (may (get_or old.list.items k d).source)
    (get_or old.list.items k d).failures (get_or new.list.items k d).failures path
    (λ bytes. (row : List (List ℕ)) × Verifies digest kind hash bytes row)) → ⊥
not_all_in_vain digest is_digest entries short kind path hash is may old new h vain =
    let t = h.place in
    elim (not_in_vain digest is_digest entries short (may (get_or old.list.items h.index t.none).source) t.gives kind path hash
    is (get_or old.list.items h.index t.none).failures (get_or new.list.items h.index t.none).failures
    (vain h.index t.none t.listed)) [
      | inl rose ↦ omega (arith, rose, t.answers)
      | inr many ↦ omega (arith, many, t.asked)
    ]

-- a place that gives only true files, before the call was recorded
pub true_noted : (digest : List ℕ → List ℕ) (entries : List (List ℕ)) {S : Type 0}
    (may : S → Path → Option (List ℕ) → Type 0) (old mid new : Places S) → new.list.items ≡ mid.list.items → (index : ℕ) →
    IsTruePlace digest entries may old new index → IsTruePlace digest entries may old mid index
true_noted digest entries {S} may old mid new same index t = record {
  none = t.none;
  listed = t.listed;
  gives = t.gives;
  asked = t.asked;
  answers = subst (λ (l : List (Place S)). (get_or l index t.none).failures ≡ (get_or old.list.items index t.none).failures) same
      t.answers;
}

-- the same after the path was recorded
pub lacks_none : (digest : List ℕ → List ℕ) → IsDigest digest → (entries : List (List ℕ)) → AreShort entries →
    (kind : FullFile) (path : Path) (hash : List ℕ) → IsFileUnder digest entries kind path hash → {S : Type 0}
    (may : S → Path → Option (List ℕ) → Type 0) (old mid new : Places S) → new.list.items ≡ mid.list.items →
    HasTruePlace digest entries may old new →
    ((k : ℕ) (d : Place S) → k < length old.list.items → IsAskedInVain (may (get_or old.list.items k d).source)
    (get_or old.list.items k d).failures (get_or mid.list.items k d).failures path
    (λ bytes. (row : List (List ℕ)) × Verifies digest kind hash bytes row)) → ⊥
lacks_none digest is_digest entries short kind path hash is may old mid new same t vain =
    not_all_in_vain digest is_digest entries short kind path hash is may old mid
    (record { index = t.index; place = true_noted digest entries may old mid new same t.index t.place }) vain

module _ {S : Type 0} (may : S → Path → Option (List ℕ) → Type 0) (failed : S → ℕ) (asked : S → Option (List Path)) where
  -- a place that answers in a call answers in a part of it
  pub true_between : (digest : List ℕ → List ℕ) (entries : List (List ℕ)) (so also last : Path → Type 0) (x y z w : Places S) →
      AsksPlaces may failed asked so x y → AsksPlaces may failed asked also y z → AsksPlaces may failed asked last z w →
      (index : ℕ) → IsTruePlace digest entries may x w index → IsTruePlace digest entries may y z index
  true_between digest entries so also last x y z w p q r index t =
      let a = p.each index t.none in
      let b = q.each index t.none in
      let c = r.each index t.none in
      let first = a.more in
      let second = b.more in
      let third = c.more in
      let same = t.answers in
      let few = t.asked in
      record {
        none = t.none;
        listed = let lt = t.listed in omega (arith, lt, p.count);
        gives = λ path within answer h. t.gives path within answer (a.later.stays path answer h);
        asked = omega (arith, first, second, third, same, few);
        answers = omega (arith, first, second, third, same);
      }

  pub place_between : (digest : List ℕ → List ℕ) (entries : List (List ℕ)) (so also last : Path → Type 0) (x y z w : Places S) →
      AsksPlaces may failed asked so x y → AsksPlaces may failed asked also y z → AsksPlaces may failed asked last z w →
      HasTruePlace digest entries may x w → HasTruePlace digest entries may y z
  place_between digest entries so also last x y z w p q r t = record {
    index = t.index;
    place = true_between digest entries so also last x y z w p q r t.index t.place;
  }
