-- Partial files, cut from wider ones (C2SP tlog-tiles, "Partial Tiles").
use Rattle.std.specs.Prelude.{◌≡◌, ℕ, ◌*◌, ◌++◌, List, length}
use Rattle.tlog_tiles.specs.Bundle.{IsBundle}
use Rattle.tlog_tiles.specs.declared.paths.Path.{Path}
use Rattle.tlog_tiles.specs.declared.paths.Path.TheVariants.{Checkpoint, Tile, Entries}

-- the number of hashes or entries in the file at a path
abbrev pub width_named : Path → ℕ
width_named Checkpoint = 0
width_named (Tile level index width) = width
width_named (Entries index width) = width

-- the path of the file of that width, with the same level and index
abbrev pub of_width : Path → ℕ → Path
of_width Checkpoint width = Checkpoint
of_width (Tile level index own) width = Tile level index width
of_width (Entries index own) width = Entries index width

-- the full tile or bundle with the same level and index: `tile/0/001` for `tile/0/001.p/3`
abbrev pub full_of : Path → Path
full_of Checkpoint = Checkpoint
full_of (Tile level index width) = Tile level index 256
full_of (Entries index width) = Entries index 256

-- the bytes have the length of a row of that many hashes
abbrev pub HasRowLength : ℕ → List ℕ → Type 0
HasRowLength width bytes = length bytes ≡ 32 * width

-- the bytes are a bundle of that many entries
abbrev pub HasEntries : ℕ → List ℕ → Type 0
HasEntries width bytes = (entries : List (List ℕ)) × IsBundle width bytes entries

-- the bytes have the format of the file at the path, and its width
abbrev pub HasFormat : Path → List ℕ → Type 0
HasFormat Checkpoint bytes = ⊥
HasFormat (Tile level index width) bytes = HasRowLength width bytes
HasFormat (Entries index width) bytes = HasEntries width bytes

-- the file of one width begins with the part, a file of the other width
pub record IsPart (Has : ℕ → List ℕ → Type 0) (width wider : ℕ) (file part : List ℕ) : Type 0 where
  pub whole : Has wider file
  pub own : Has width part
  pub rest : List ℕ
  pub parts : file ≡ part ++ rest

-- the part is the file at the path: the first hashes or entries of a file that is that wide, with the
-- same level and index
abbrev pub IsFileCut : Path → ℕ → List ℕ → List ℕ → Type 0
IsFileCut Checkpoint wider file part = ⊥
IsFileCut (Tile level index width) wider file part = IsPart HasRowLength width wider file part
IsFileCut (Entries index width) wider file part = IsPart HasEntries width wider file part
