-- The edge rows that the kept answers of a place give.
use Rattle.std.specs.Prelude.{◌≡◌, ℕ, List, Option, Some, None}
use Rattle.tlog_tiles.specs.declared.paths.Path.{Path}
use Rattle.mirror_sources.specs.Files.{full_of}
use Rattle.copy_places.specs.EndTiles.{IsKeptAnswer, said}
use Rattle.mirror_folders.specs.Partial.{IsFullCut}
use Rattle.copy_places.specs.FoundRows.{AreFoundRows, IsFoundRow}
use Rattle.copy_places.specs.Mixes.{HaveNoMix}
use Rattle.copy_places.specs.declared.end_tiles.EndTile.{EndTile}
use Rattle.copy_places.specs.declared.mix.GivenRows.{GivenRows}
use Rattle.copy_places.specs.declared.place.PlaceAnswer.{PlaceAnswer}

module _ (tiles : List EndTile) (k : ℕ) (path : Path) where
  -- the bytes that are found for a partial tile, by what the place said of the full one
  abbrev pub IsCutOfSaid : Option (Option (List ℕ)) → Option (List ℕ) → Type 0
  IsCutOfSaid None found = found ≡ None
  IsCutOfSaid (Some None) found = found ≡ None
  IsCutOfSaid (Some (Some full)) found = IsFullCut path full found

  -- the same by a kept answer of the place of index k for the full tile
  pub record IsKeptCut (found : Option (List ℕ)) : Type 0 where
    pub answer : PlaceAnswer
    pub kept : IsKeptAnswer tiles k (full_of path) answer
    pub gives : IsCutOfSaid (said answer) found

  -- the bytes that are found for the partial tile, by what the place said of it. If it has none, those of the full tile count
  abbrev pub IsOfSaid : Option (Option (List ℕ)) → Option (List ℕ) → Type 0
  IsOfSaid None found = found ≡ None
  IsOfSaid (Some None) found = IsKeptCut found
  IsOfSaid (Some (Some bytes)) found = found ≡ Some bytes

  -- the same by a kept answer of the place
  pub record IsKeptTile (found : Option (List ℕ)) : Type 0 where
    pub answer : PlaceAnswer
    pub kept : IsKeptAnswer tiles k path answer
    pub gives : IsOfSaid (said answer) found

-- the row of a level of the edge of n entries that the kept answers of the place of index k give
abbrev pub IsKeptRow : List EndTile → ℕ → ℕ → ℕ → Option (List (List ℕ)) → Type 0
IsKeptRow tiles k n level row = IsFoundRow (IsKeptTile tiles k) n level row

-- the rows of all levels are those that the kept answers give
abbrev pub AreKeptRows : List EndTile → ℕ → ℕ → GivenRows → Type 0
AreKeptRows tiles k n given = AreFoundRows (IsKeptTile tiles k) n given

-- by their kept answers, no mix of the rows of two places leads to the root
pub record LackMix (digest : List ℕ → List ℕ) (n : ℕ) (root : List ℕ) (tiles : List EndTile) (i j : ℕ) : Type 0 where
  pub first : GivenRows
  pub second : GivenRows
  pub first_are : AreKeptRows tiles i n first
  pub second_are : AreKeptRows tiles j n second
  pub none : HaveNoMix digest n root first second
