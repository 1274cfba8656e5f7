-- The possible answers of a source over a shelf.
use Rattle.std.specs.Prelude.{◌≡◌, ◌⊎◌, ℕ, ◌+◌, ◌<◌, All, List, [], ◌∷◌, Option, Some, None, ⊤}
use Rattle.tlog_tiles.specs.declared.paths.Path.{Path}
use Rattle.tlog_tiles.specs.declared.paths.Path.TheVariants.{Tile}
use Rattle.mirror_folders.specs.Shelf.{Put, RecordsRead}

-- the answer consists of bytes
abbrev pub HasBytes : Option (List ℕ) → Type 0
HasBytes None = ⊤
HasBytes (Some bytes) = All (λ byte. byte < 256) bytes

-- the name of the shelf, above all byte values, at the path of a tile without hashes. It never comes, since it is not a byte
abbrev pub NamesShelf : ℕ → Path → Option (List ℕ) → Type 0
NamesShelf name path answer = (path ≡ Tile 0 0 0) × (answer ≡ Some ((256 + name) ∷ []))

-- the answer is the shelf's content at the path. The other answer is there for `StaysWithin`: with it, that clause implies that the
-- source still refers to the same shelf. No other clause of a call on any source implies this
abbrev pub ShelfMayAnswer : ℕ → Option (List Put) → Path → Option (List ℕ) → Type 0
ShelfMayAnswer name held path answer =
    (HasBytes answer × RecordsRead held path answer) ⊎ NamesShelf name path answer
