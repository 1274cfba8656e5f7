-- Why a proof is not made: nobody has one of its files, or those that were had are of no log (C2SP tlog-tiles, "Merkle Tree").
use Rattle.std.specs.Prelude.{◌≡◌, ◌⊎◌, ℕ, ◌+◌, ◌%◌, ◌^◌, ◌<◌, ◌≤◌, List, [], get_or, length, IfSome, Option, Some, None, ⊤}
use Rattle.tlog_shape.specs.Edge.{edge_index_of, width_of}
use Rattle.tlog_tiles.specs.declared.paths.Path.{Path}
use Rattle.tlog_tiles.specs.declared.paths.Path.TheVariants.{Tile, Entries}
use Rattle.mirror_model.specs.Forks.{Point}
use Rattle.mirror_model.specs.Strings.{IsDigest}
use Rattle.mirror_model.specs.TrueLaws.{AreShort}
use Rattle.mirror_sources.specs.Files.{full_of}
use Rattle.mirror_sources.specs.Honest.{true_bytes}
use Rattle.mirror_folders.specs.Shelf.{Put, RecordsRead}
use Rattle.log_reader.specs.EdgeRows.{Edge, LeadsTo}
use Rattle.log_reader.specs.Holding.{GoesOn}
use Rattle.log_reader.specs.Truth.{IsListClear}
use Rattle.log_reader.specs.Verified.{Verifies}
use Rattle.log_reader.specs.Ways.{HasEdgeHashes, IsWay, row_of_way}
use Rattle.log_reader.specs.declared.verify.FullFile.{FullFile}
use Rattle.log_reader.specs.declared.verify.FullFile.TheVariants as full
use Rattle.copy_places.specs.AskedEnds.{IsKeptInVain}
use Rattle.copy_places.specs.EndTiles.{IsKeptAnswer, said}
use Rattle.copy_places.specs.KeptRows.{LackMix}
use Rattle.copy_places.specs.ShelfRows.{LacksEdge}
use Rattle.copy_places.specs.declared.end_tiles.EndTile.{EndTile}
use Rattle.copy_places.specs.declared.place.PlaceAnswer.{PlaceAnswer}
use Rattle.copy_places.specs.Forks.{HasPoint}
use Rattle.copy_places.specs.declared.candidate.Candidate.{Candidate}

-- ---- what nobody has

-- the shelf has no good file at the path
pub record IsReadInVain (puts : Option (List Put)) (path : Path) (good : List ℕ → Type 0) : Type 0 where
  pub found : Option (List ℕ)
  pub read : RecordsRead puts path found
  pub vain : IfSome found (λ bytes. ¬ good bytes)

-- the bytes are the full file of that kind under the hash
abbrev pub IsFileOf : (List ℕ → List ℕ) → FullFile → List ℕ → List ℕ → Type 0
IsFileOf digest kind hash bytes = (row : List (List ℕ)) × Verifies digest kind hash bytes row

-- a proof from the first entries to all n wants the full tile of that level in which the first ones end. They end inside it
pub record IsWanted (first n level : ℕ) : Type 0 where
  pub low : level ≤ 6
  pub is_full : edge_index_of first level < edge_index_of n level
  pub inside : (below : ℕ) × (below ≤ level) × (1 ≤ width_of first below)

module _ (digest : List ℕ → List ℕ) where
  -- the rows that were read are of no log of short entries, unless two different strings share a digest: an edge, and a way up to it
  pub record IsOfNoLog (edge : Edge) : Type 0 where
    pub level : ℕ
    pub index : ℕ
    pub way : List (List (List ℕ))
    pub is_way : IsWay digest edge level index way
    pub none :
        IsDigest digest → edge.size < 2 ^ 64 → (entries : List (List ℕ)) → AreShort entries →
        ¬ IsListClear digest edge way entries

  module _ (puts : Option (List Put)) (tiles : List EndTile) (count : ℕ) where
    -- nobody has the full file: not the shelf, and by their kept answers none of the places
    pub record IsNobodys (kind : FullFile) (path : Path) (hash : List ℕ) : Type 0 where
      pub shelf : IsReadInVain puts path (IsFileOf digest kind hash)
      pub places : (k : ℕ) → k < count → IsKeptInVain tiles k path (IsFileOf digest kind hash)

    -- nobody has the row of a full tile: not the tile nor, for level 0, its bundle
    pub record IsRowNobodys (level index : ℕ) (hash : List ℕ) : Type 0 where
      pub tile : IsNobodys full.Tile (Tile level index 256) hash
      pub bundle : level ≡ 0 → IsNobodys full.Bundle (Entries index 256) hash

    -- nobody has the row of a wanted tile under its hash in the row above, from which a way leads up to the edge
    pub record LacksRow (first : ℕ) (edge : Edge) : Type 0 where
      pub level : ℕ
      pub wanted : IsWanted first edge.size level
      pub way : List (List (List ℕ))
      pub is_way : IsWay digest edge (level + 1) (edge_index_of first (level + 1)) way
      pub nobody : IsRowNobodys level (edge_index_of first level)
          (get_or (row_of_way edge (level + 1) way) (edge_index_of first level % 256) [])

    -- why a proof from the first entries to the larger point cannot be had. The shelf has not the edge, and by their kept answers no two
    -- places have it. Or nobody has a wanted row, or what was had is of no log
    pub data CannotBeHad (first : ℕ) (large : Point) : Type 0 where
      NoEdge :
          LacksEdge digest large.size large.root puts →
          ((i j : ℕ) → i < count → j < count → LackMix digest large.size large.root tiles i j) → CannotBeHad first large
      NoRow :
          (edge : Edge) → LeadsTo digest large.size large.root edge → HasEdgeHashes edge → LacksRow first edge →
          CannotBeHad first large
      NoLog :
          (edge : Edge) → LeadsTo digest large.size large.root edge → HasEdgeHashes edge → IsOfNoLog edge →
          CannotBeHad first large

    -- no two different strings of the entries' tree, and of the edge and the way of the reason, share a digest. Without an edge it holds
    abbrev pub IsReasonClear : {first : ℕ} {large : Point} → CannotBeHad first large → List (List ℕ) → Type 0
    IsReasonClear (NoEdge own none) entries = ⊤
    IsReasonClear (NoRow edge leads hashes lacks) entries = IsListClear digest edge lacks.way entries
    IsReasonClear (NoLog edge leads hashes of) entries = IsListClear digest edge of.way entries

-- ---- what places have

module _ (digest : List ℕ → List ℕ) (entries : List (List ℕ)) (tiles : List EndTile) where
  -- by each kept answer of the place for the path, the place has the true file of a log of the entries
  abbrev pub GivesTrue : ℕ → Path → Type 0
  GivesTrue k path =
      (answer : PlaceAnswer) → IsKeptAnswer tiles k path answer → said answer ≡ Some (Some (true_bytes digest entries path))

  -- what was said of a full file is one, and begins with the true bytes of the partial one
  abbrev pub BeginsTrue : Path → Option (Option (List ℕ)) → Type 0
  BeginsTrue path None = ⊥
  BeginsTrue path (Some None) = ⊥
  BeginsTrue path (Some (Some bytes)) = GoesOn path (true_bytes digest entries path) bytes

  -- what was said of a partial file is true: its true bytes, or that there is none, and then the full file begins with them
  abbrev pub IsTrueOfPart : ℕ → Path → Option (Option (List ℕ)) → Type 0
  IsTrueOfPart k path None = ⊥
  IsTrueOfPart k path (Some None) = (answer : PlaceAnswer) → IsKeptAnswer tiles k (full_of path) answer → BeginsTrue path (said answer)
  IsTrueOfPart k path (Some (Some bytes)) = bytes ≡ true_bytes digest entries path

  -- by each kept answer of the place for the partial file, the place has its true bytes
  abbrev pub GivesTruePart : ℕ → Path → Type 0
  GivesTruePart k path = (answer : PlaceAnswer) → IsKeptAnswer tiles k path answer → IsTrueOfPart k path (said answer)

-- the files of a proof, where "whole" says that a place has a full file, and "part" that it has a partial one
module _ (entries : List (List ℕ)) (whole part : ℕ → Path → Type 0) (count : ℕ) where
  -- one of the places has the file
  pub record IsGiven (path : Path) : Type 0 where
    pub place : ℕ
    pub listed : place < count
    pub gives : whole place path

  -- one of the places has the row of the full tile: the tile or, for level 0, its bundle
  abbrev pub IsRowGiven : ℕ → ℕ → Type 0
  IsRowGiven level index = IsGiven (Tile level index 256) ⊎ ((level ≡ 0) × IsGiven (Entries index 256))

  -- one place, or two together, have the edge of the entries: each partial tile is at the one or at the other
  pub record IsEdgeGiven : Type 0 where
    pub one : ℕ
    pub other : ℕ
    pub one_listed : one < count
    pub other_listed : other < count
    pub each :
        (level : ℕ) → level ≤ 7 → 1 ≤ width_of (length entries) level → let path =
        Tile level (edge_index_of (length entries) level) (width_of (length entries) level) in
        part one path ⊎ part other path

  -- the places have the files of a proof from the first entries to all
  pub record AreGiven (first : ℕ) : Type 0 where
    pub edge : IsEdgeGiven
    pub rows : (level : ℕ) → IsWanted first (length entries) level → IsRowGiven level (edge_index_of first level)

-- by their kept answers, the places have the files of a proof from the first entries to all
abbrev pub AreFilesGiven : (List ℕ → List ℕ) → List (List ℕ) → List EndTile → ℕ → ℕ → Type 0
AreFilesGiven digest entries tiles count first =
    AreGiven entries (GivesTrue digest entries tiles) (GivesTruePart digest entries tiles) count first

-- if the places have the files of the proof, there is no reason why it cannot be had. Premise: no two different strings of the entries'
-- tree, and of the edge and the way of the reason, share a digest
abbrev pub GivenFilesAreHad : Type 0
GivenFilesAreHad =
    (digest : List ℕ → List ℕ) → IsDigest digest → (puts : Option (List Put)) (tiles : List EndTile) (count first : ℕ)
    (large : Point) → large.size < 2 ^ 64 → (why : CannotBeHad digest puts tiles count first large) →
    (entries : List (List ℕ)) → AreShort entries → HasPoint digest large entries →
    IsReasonClear digest puts tiles count why entries → ¬ AreFilesGiven digest entries tiles count first

-- the sizes are those of two candidates
abbrev pub IsOfEnds : Candidate → Candidate → ℕ × ℕ → Type 0
IsOfEnds smaller larger sizes = (sizes.0 ≡ smaller.size.0) × (sizes.1 ≡ larger.size.0)
