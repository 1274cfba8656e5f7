-- A place that gives only true files of a log.
use Rattle.std.specs.Prelude.{◌≡◌, ℕ, ◌*◌, ◌^◌, ◌<◌, List, length, get_or, Option}
use Rattle.tlog_hash.specs.Tree.{mth}
use Rattle.tlog_hash.specs.Rows.{part}
use Rattle.tlog_tiles.specs.declared.paths.Path.{Path}
use Rattle.tlog_tiles.specs.declared.paths.Path.TheVariants.{Checkpoint, Tile, Entries}
use Rattle.tlog_tiles.specs.Tiles.{IsWithin}
use Rattle.mirror_sources.specs.Honest.{IsTrueAnswer}
use Rattle.log_reader.specs.declared.verify.FullFile.{FullFile}
use Rattle.log_reader.specs.declared.verify.FullFile.TheVariants as kind
use Rattle.copy_places.specs.declared.place.Place.{Place}
use Rattle.copy_places.specs.declared.places.Places.{Places}

module _ (digest : List ℕ → List ℕ) (entries : List (List ℕ)) where
  -- the path is that of a full tile of level 1 or above, or of a full bundle, of a log of the entries. The hash is that of the
  -- entries below it
  abbrev pub IsFileUnder : FullFile → Path → List ℕ → Type 0
  IsFileUnder kind.Tile Checkpoint hash = ⊥
  IsFileUnder kind.Tile (Tile level index width) hash =
      (width ≡ 256) × IsWithin (length entries) (Tile level index 256)
      × (hash ≡ mth digest (part (256 * index * 256 ^ level) (256 * 256 ^ level) entries))
  IsFileUnder kind.Tile (Entries index width) hash = ⊥
  IsFileUnder kind.Bundle Checkpoint hash = ⊥
  IsFileUnder kind.Bundle (Tile level index width) hash = ⊥
  IsFileUnder kind.Bundle (Entries index width) hash =
      (width ≡ 256) × IsWithin (length entries) (Entries index 256)
      × (hash ≡ mth digest (part (256 * index * 256 ^ 0) (256 * 256 ^ 0) entries))

  -- each possible answer of the source is the true file of a log of the entries, like that of an honest source
  abbrev pub GivesTrueFiles : (Path → Option (List ℕ) → Type 0) → Type 0
  GivesTrueFiles may =
      (path : Path) → IsWithin (length entries) path → (answer : Option (List ℕ)) → may path answer →
      IsTrueAnswer digest entries path answer

-- the place of that index gives only true files of a log of the entries. It did not fail, and was not given up
pub record IsTruePlace (digest : List ℕ → List ℕ) (entries : List (List ℕ)) {S : Type 0}
    (may : S → Path → Option (List ℕ) → Type 0) (old new : Places S) (index : ℕ) : Type 0 where
  pub none : Place S
  pub listed : index < length old.list.items
  pub gives : GivesTrueFiles digest entries (may (get_or old.list.items index none).source)
  pub asked : (get_or old.list.items index none).failures < 8
  pub answers : (get_or new.list.items index none).failures ≡ (get_or old.list.items index none).failures

-- one of the places is such a place
pub record HasTruePlace (digest : List ℕ → List ℕ) (entries : List (List ℕ)) {S : Type 0}
    (may : S → Path → Option (List ℕ) → Type 0) (old new : Places S) : Type 0 where
  pub index : ℕ
  pub place : IsTruePlace digest entries may old new index
