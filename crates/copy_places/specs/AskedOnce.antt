-- No place gets two requests for one path in a call.
use Rattle.std.specs.Prelude.{◌≡◌, ◌≢◌, ℕ, ◌<◌, List, All, AllPairs, get_or, Option}
use Rattle.tlog_tiles.specs.declared.paths.Path.{Path}
use Rattle.mirror_sources.specs.Recorded.{AddsToRecord}
use Rattle.copy_places.specs.Asked.{IsAskedInTurn, IsEdgeTile}
use Rattle.copy_places.specs.EndTiles.{IsEndTile, IsHeard, IsKept, KeepsAnswers}
use Rattle.copy_places.specs.declared.place.Place.{Place}
use Rattle.copy_places.specs.declared.places.Places.{Places}

module _ {S : Type 0} (asked : S → Option (List Path)) where
  -- all requests to a place were for such paths, and no two of them for one path
  pub record IsAskedOnce (so : Path → Type 0) (old new : Place S) : Type 0 where
    pub paths : List Path
    pub recorded : AddsToRecord (asked old.source) (asked new.source) paths
    pub are_so : All so paths
    pub once : AllPairs (λ earlier later. earlier ≢ later) paths

  -- no place got two requests for one path. "so" has the index of a place and the paths that it may have been asked for
  pub record AsksEachOnce (so : ℕ → Path → Type 0) (old new : Places S) : Type 0 where
    pub each : (k : ℕ) (d : Place S) → IsAskedOnce (so k) (get_or old.list.items k d) (get_or new.list.items k d)

  -- the same, and the answers for the tiles in which the two trees end are kept
  pub record AsksOnce (so : ℕ → Path → Type 0) (old new : Places S) : Type 0 where
    pub asks : AsksEachOnce (λ k path. so k path × IsKept new k path) old new
    pub still : KeepsAnswers old.ends new.ends

  -- no place got two requests for one path, and none for a path whose answer was kept. All requests were for tiles in which the two
  -- trees end, and the answers are kept
  pub record AsksMore (old new : Places S) : Type 0 where
    pub asks : AsksEachOnce (λ k path. IsEndTile new.ends.sizes path × (¬ IsHeard old.ends.tiles.items k path)
        × IsHeard new.ends.tiles.items k path) old new
    pub still : KeepsAnswers old.ends new.ends

-- such a path, at the place of that index
abbrev pub IsAtPlace : ℕ → (Path → Type 0) → ℕ → Path → Type 0
IsAtPlace index so k path = (k ≡ index) × so path

-- ---- only contracts of private functions cite what follows

-- such a path, at a place that had a turn before that one
abbrev pub IsBeforeTurn : ℕ → ℕ → (Path → Type 0) → ℕ → Path → Type 0
IsBeforeTurn first turn so k path = ((earlier : ℕ) × (earlier < turn) × IsAskedInTurn first earlier k) × so path

-- the path of the partial tile of that level at the right edge of n entries, or its full path
abbrev pub IsEdgeTileAt : ℕ → ℕ → Path → Type 0
IsEdgeTileAt n level path = (tile : IsEdgeTile n path) × (tile.level ≡ level)

-- the same for the levels below that one
abbrev pub IsEdgeTileBelow : ℕ → ℕ → Path → Type 0
IsEdgeTileBelow n level path = (tile : IsEdgeTile n path) × (tile.level < level)
