-- Laws of the file formats and of tiles.
use Rattle.std.specs.Prelude.{◌≡◌, ◌↔◌, ℕ, ◌+◌, ◌*◌, ◌^◌, ◌<◌, ◌≤◌, ◌++◌, All, AllPairs, Contains, List}
use Rattle.std.specs.Prelude.{length}
use Rattle.tlog_text.specs.Answers.{AlwaysHasOneAnswer, HasOneAnswer}
use Rattle.tlog_hash.specs.Rows.{part, level_row}
use Rattle.tlog_hash.specs.Tree.{fold_of, mth}
use Rattle.tlog_tiles.specs.Bundle.{IsBundle, ReadsBundle}
use Rattle.tlog_tiles.specs.Cut.{HasEntries, HasFormat, HasRowLength, IsFileCut, IsPart, of_width}
use Rattle.tlog_tiles.specs.Edge.{edge_of, level_of}
use Rattle.tlog_tiles.specs.Path.{path_text, IsLawfulPath, IsPath, ReadsPath}
use Rattle.tlog_tiles.specs.Row.{IsRow, ReadsRow}
use Rattle.tlog_tiles.specs.Tiles.{bundle_bytes, tile_bytes, IsEdgeTile, IsTileWithin}
use Rattle.tlog_tiles.specs.declared.bundle.TheConstants.{MAX_BUNDLE_LEN}
use Rattle.tlog_tiles.specs.declared.bundle.BundleFault.TheVariants as bundle
use Rattle.tlog_tiles.specs.declared.paths.Path.{Path}
use Rattle.tlog_tiles.specs.declared.row.RowFault.TheVariants as row

-- reading bytes as a bundle of a width has one answer, apart from OutOfMemory
abbrev pub OneBundleAnswer : Type 0
OneBundleAnswer = (width : ℕ) → HasOneAnswer bundle.OutOfMemory (ReadsBundle width)

-- a bundle has at most MAX_BUNDLE_LEN bytes
abbrev pub BundlesAreShort : Type 0
BundlesAreShort =
    (width : ℕ) (bytes : List ℕ) (entries : List (List ℕ)) →
    width ≤ 256 → IsBundle width bytes entries → length bytes ≤ MAX_BUNDLE_LEN

-- reading bytes as a row of a width has one answer, apart from OutOfMemory
abbrev pub OneRowAnswer : Type 0
OneRowAnswer = (width : ℕ) → HasOneAnswer row.OutOfMemory (ReadsRow width)

-- reading a text as a path has one answer
abbrev pub OnePathAnswer : Type 0
OnePathAnswer = AlwaysHasOneAnswer ReadsPath

-- a text spells a path exactly if the path is lawful and the text is the printed path
abbrev pub PathsAreSpelled : Type 0
PathsAreSpelled =
    (text : List ℕ) (path : Path) → IsPath text path ↔ (IsLawfulPath path × (text ≡ path_text path))

-- the right edge of a tree has exactly the partial tiles within it that are the widest at their
-- index
abbrev pub EdgeIsPartialTiles : Type 0
EdgeIsPartialTiles = (n : ℕ) (path : Path) → Contains (edge_of n) path ↔ IsEdgeTile n path

-- the levels of the right edge rise
abbrev pub EdgeLevelsRise : Type 0
EdgeLevelsRise = (n : ℕ) → AllPairs (λ lower higher. level_of lower < level_of higher) (edge_of n)

-- width hashes of a level, from the hash with the number first on, fold to the tree hash of the
-- entries that they cover
abbrev pub LevelsFoldToTreeHash : Type 0
LevelsFoldToTreeHash =
    (digest : List ℕ → List ℕ) (entries : List (List ℕ)) (level first width : ℕ) →
    1 ≤ width →
    (first + width) * 256 ^ level ≤ length entries →
    fold_of digest (level_row digest entries level first width) ≡
    mth digest (part (first * 256 ^ level) (width * 256 ^ level) entries)

-- the bytes of a tile are a row of the tile's width, and the bytes of a bundle are a bundle of its
-- width
pub record IsRead (digest : List ℕ → List ℕ) (entries : List (List ℕ)) : Type 0 where
  pub tile :
      (level index width : ℕ) →
      IsRow width (tile_bytes digest entries level index width)
      (level_row digest entries level (256 * index) width)
  pub bundle :
      (index width : ℕ) → IsTileWithin (length entries) 0 index width →
      IsBundle width (bundle_bytes entries index width) (part (256 * index) width entries)

-- the true bytes of each tile and bundle can be read, if a digest has 32 bytes and each entry at
-- most 65,535 bytes
abbrev pub TrueBytesAreRead : Type 0
TrueBytesAreRead =
    (digest : List ℕ → List ℕ) → ((s : List ℕ) → length (digest s) ≡ 32) →
    (entries : List (List ℕ)) → All (λ entry. length entry < 2 ^ 16) entries → IsRead digest entries

-- a file begins with its cut, which is the only one. A file of the format of a width has as cut each
-- file of the path's format that it begins with
pub record CutsAreFirst : Type 0 where
  pub one :
      (path : Path) (wider : ℕ) (file first second : List ℕ) →
      IsFileCut path wider file first → IsFileCut path wider file second → first ≡ second
  pub first :
      (path : Path) (wider : ℕ) (file part : List ℕ) →
      IsFileCut path wider file part → (rest : List ℕ) × (file ≡ part ++ rest)
  pub begins :
      (path : Path) (wider : ℕ) (file part rest : List ℕ) →
      HasFormat (of_width path wider) file → HasFormat path part → file ≡ part ++ rest →
      IsFileCut path wider file part

-- the true bytes of a tile or a bundle are the cut of those of a wider one
pub record AreCuts (digest : List ℕ → List ℕ) (entries : List (List ℕ)) : Type 0 where
  pub tile :
      (level index width wider : ℕ) → width ≤ wider →
      IsPart HasRowLength width wider (tile_bytes digest entries level index wider)
      (tile_bytes digest entries level index width)
  pub bundle :
      (index width wider : ℕ) → width ≤ wider → IsTileWithin (length entries) 0 index wider →
      IsPart HasEntries width wider (bundle_bytes entries index wider)
      (bundle_bytes entries index width)

-- the same for each log of entries of at most 65,535 bytes, if a digest has 32 bytes
abbrev pub CutsOfTrueBytes : Type 0
CutsOfTrueBytes =
    (digest : List ℕ → List ℕ) → ((s : List ℕ) → length (digest s) ≡ 32) →
    (entries : List (List ℕ)) → All (λ entry. length entry < 2 ^ 16) entries → AreCuts digest entries
