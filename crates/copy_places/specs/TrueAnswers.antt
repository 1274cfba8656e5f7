-- The answers of a place that gives only true files. Only the contracts of private functions cite it.
use Rattle.std.specs.Prelude.{◌≡◌, ℕ, ◌*◌, ◌≤◌, List, length, map, take, Option, Some}
use Rattle.tlog_shape.specs.Edge.{edge_index_of, width_of}
use Rattle.tlog_hash.specs.Rows.{level_row, part}
use Rattle.tlog_hash.specs.Tree.{leaf_hash, mth}
use Rattle.tlog_tiles.specs.declared.paths.Path.{Path}
use Rattle.tlog_tiles.specs.declared.paths.Path.TheVariants.{Checkpoint, Tile, Entries}
use Rattle.tlog_tiles.specs.Tiles.{IsWithin}
use Rattle.mirror_model.specs.Strings.{IsDigest}
use Rattle.mirror_model.specs.TrueLaws.{AreShort}
use Rattle.mirror_sources.specs.Honest.{IsGone, true_bytes}
use Rattle.copy_places.specs.TruePlaces.{IsTruePlace}
use Rattle.copy_places.specs.declared.places.Places.{Places}

module _ {S : Type 0} (may : S → Path → Option (List ℕ) → Type 0) (old new : Places S) (index : ℕ) where
  -- "so" holds for each list of entries if the place gives only true files of it
  abbrev pub OfTruePlace : ((List ℕ → List ℕ) → List (List ℕ) → Type 0) → Type 0
  OfTruePlace so =
      (digest : List ℕ → List ℕ) → IsDigest digest → (entries : List (List ℕ)) → AreShort entries →
      IsTruePlace digest entries may old new index → so digest entries

  -- the true bytes of a path within the entries were found
  abbrev pub FindsTrue : Path → Option (List ℕ) → Type 0
  FindsTrue path found = OfTruePlace (λ digest entries. IsWithin (length entries) path →
      found ≡ Some (true_bytes digest entries path))

  -- the same if a log may have deleted the partial file
  abbrev pub FindsPart : Path → Option (List ℕ) → Type 0
  FindsPart path found = OfTruePlace (λ digest entries. IsWithin (length entries) path → IsGone (length entries) path →
      found ≡ Some (true_bytes digest entries path))

  -- the true row of a level of the edge of n entries was found
  abbrev pub FindsTrueRow : ℕ → ℕ → Option (List (List ℕ)) → Type 0
  FindsTrueRow n level found = OfTruePlace (λ digest entries. n ≤ length entries →
      found ≡ Some (level_row digest entries level (256 * edge_index_of n level) (width_of n level)))

module _ (digest : List ℕ → List ℕ) (entries : List (List ℕ)) where
  -- the root is that of the first n of the entries
  pub record IsRootOf (n : ℕ) (root : List ℕ) : Type 0 where
    pub short : AreShort entries
    pub upto : n ≤ length entries
    pub root_is : root ≡ mth digest (take n entries)

  -- the row has the leaf hashes of the bundle at the path
  abbrev pub HasTrueLeaves : Path → List (List ℕ) → Type 0
  HasTrueLeaves Checkpoint row = ⊥
  HasTrueLeaves (Tile level index width) row = ⊥
  HasTrueLeaves (Entries index width) row =
      (width ≡ length row) × IsWithin (length entries) (Entries index width)
      × (row ≡ map (leaf_hash digest) (part (256 * index) width entries))
