-- The tiles in which the copy and the larger tree end, and the full bundle in which the copy ends. The answers of the places for them
-- are kept.
use Rattle.std.specs.Prelude.{◌≡◌, ◌≢◌, ◌⊎◌, ℕ, ◌<◌, ◌≤◌, List, length, get_or, Option, Some, None, option_map}
use Rattle.tlog_shape.specs.Edge.{edge_index_of}
use Rattle.tlog_tiles.specs.declared.paths.Path.{Path}
use Rattle.tlog_tiles.specs.declared.paths.Path.TheVariants.{Checkpoint, Tile, Entries}
use Rattle.copy_places.specs.declared.end_tiles.EndTile.{EndTile}
use Rattle.copy_places.specs.declared.end_tiles.EndTiles.{EndTiles}
use Rattle.copy_places.specs.declared.place.PlaceAnswer.{PlaceAnswer}
use Rattle.copy_places.specs.declared.place.PlaceAnswer.TheVariants.{File, NotFound, Failed}
use Rattle.copy_places.specs.declared.places.Places.{Places}

-- a tile, partial or full, in which a tree of one of two sizes ends: the one after the full tiles of its level. Or the full bundle in
-- which the tree of the first size ends
abbrev pub IsEndTile : ℕ × ℕ → Path → Type 0
IsEndTile sizes Checkpoint = ⊥
IsEndTile sizes (Tile level index width) =
    (level ≤ 7) × ((index ≡ edge_index_of sizes.0 level) ⊎ (index ≡ edge_index_of sizes.1 level))
IsEndTile sizes (Entries index width) = (index ≡ edge_index_of sizes.0 0) × (width ≡ 256)

-- one of the answers is that of the place of index k for the path
pub record IsHeard (tiles : List EndTile) (k : ℕ) (path : Path) : Type 0 where
  pub at : ℕ
  pub listed : at < length tiles
  pub is : (d : EndTile) → ((get_or tiles at d).place ≡ k) × ((get_or tiles at d).path ≡ path)

-- the tile at that index is that of the place of index k for the path
pub record IsTileOf (tiles : List EndTile) (k : ℕ) (path : Path) (at : ℕ) : Type 0 where
  pub listed : at < length tiles
  pub is : (d : EndTile) → ((get_or tiles at d).place ≡ k) × ((get_or tiles at d).path ≡ path)

-- what an answer says: the bytes, or that there is no such file. None: the place failed
abbrev pub said : PlaceAnswer → Option (Option (List ℕ))
said (File bytes) = Some (Some bytes.items)
said NotFound = Some None
said Failed = None

-- no answer is kept at that index: the place was to be asked, and its answer is not there
abbrev pub IsEmpty : List EndTile → ℕ → Type 0
IsEmpty tiles at = (d : EndTile) → (get_or tiles at d).answer ≡ None

-- the place of index k gave that answer for the path, and it is kept
pub record IsKeptAnswer (tiles : List EndTile) (k : ℕ) (path : Path) (answer : PlaceAnswer) : Type 0 where
  pub at : ℕ
  pub tile : IsTileOf tiles k path at
  pub says : (d : EndTile) → option_map said (get_or tiles at d).answer ≡ Some (said answer)

-- each answer that is kept was kept before
abbrev pub HasNoNew : List EndTile → List EndTile → Type 0
HasNoNew old new = (k : ℕ) (path : Path) (answer : PlaceAnswer) → IsKeptAnswer new k path answer → IsKeptAnswer old k path answer

-- each answer that is kept was kept before, or is that one, where it belongs
abbrev pub HasNewAt : Option ℕ → PlaceAnswer → List EndTile → List EndTile → Type 0
HasNewAt at given old new =
    (k : ℕ) (path : Path) (answer : PlaceAnswer) → IsKeptAnswer new k path answer →
    IsKeptAnswer old k path answer ⊎ ((i : ℕ) × (at ≡ Some i) × IsTileOf old k path i × (said answer ≡ said given))

-- the answers that were there are there as they were, also those that say that the place failed
pub record AnswersStay (old new : List EndTile) : Type 0 where
  pub more : length old ≤ length new
  pub same : (at : ℕ) → at < length old → (d : EndTile) → get_or new at d ≡ get_or old at d

-- all of them but the one at that index
pub record OthersStay (but : Option ℕ) (old new : List EndTile) : Type 0 where
  pub more : length old ≤ length new
  pub same : (at : ℕ) → but ≢ Some at → at < length old → (d : EndTile) → get_or new at d ≡ get_or old at d

-- if the path is that of such a tile, the answer of the place is kept
abbrev pub IsKept : {S : Type 0} → Places S → ℕ → Path → Type 0
IsKept places k path = IsEndTile places.ends.sizes path → IsHeard places.ends.tiles.items k path

-- the two sizes are the same. Each tile that was there still is, and each answer that was kept, unless the place failed
pub record KeepsAnswers (old new : EndTiles) : Type 0 where
  pub sizes_are : new.sizes ≡ old.sizes
  pub heard : (k : ℕ) (path : Path) → IsHeard old.tiles.items k path → IsHeard new.tiles.items k path
  pub answers : (k : ℕ) (path : Path) (answer : PlaceAnswer) → said answer ≢ None →
      IsKeptAnswer old.tiles.items k path answer → IsKeptAnswer new.tiles.items k path answer
