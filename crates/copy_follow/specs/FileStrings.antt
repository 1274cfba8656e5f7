-- The strings that files lead to, whoever gives them: those of trees and of rows of hashes.
use Rattle.std.specs.Prelude.{ℕ, zero, suc, ◌*◌, ◌&&◌, ◌==◌, List, [], ◌∷◌, ◌++◌, length, map, take, if◌then◌else◌}
use Rattle.std.specs.List.{flat_map}
use Rattle.tlog_shape.specs.Edge.{edge_index_of, width_of}
use Rattle.tlog_hash.specs.Tree.{joins, strings}
use Rattle.tlog_tiles.specs.declared.paths.Path.{Path}
use Rattle.tlog_tiles.specs.declared.paths.Path.TheVariants.{Checkpoint, Tile, Entries}
use Rattle.mirror_model.specs.Edge.{edge_levels, edge_strings}
use Rattle.mirror_model.specs.Item.{entries_of, row_of}
use Rattle.mirror_sources.specs.Source.{File}

-- each choice of one element from each of the lists, in order
abbrev pub choices : {A : Type 0} → List (List A) → List (List A)
choices [] = [] ∷ []
choices (xs ∷ others) = flat_map (λ x. map (λ chosen. x ∷ chosen) (choices others)) xs

-- the row that the file gives for a level of the right edge of n entries: the first hashes of a tile of that level at the edge
abbrev pub row_for : ℕ → ℕ → Path → List ℕ → List (List (List ℕ))
row_for n level Checkpoint bytes = []
row_for n level (Tile at index width) bytes =
    if (at == level) && (index == edge_index_of n level) then row_of (take (32 * width_of n level) bytes) ∷ [] else []
row_for n level (Entries index width) bytes = []

-- the rows that the files give for that level
unfoldable pub rows_for : ℕ → List File → ℕ → List (List (List ℕ))
rows_for n files level = flat_map (λ file. row_for n level file.0 file.1) files

-- the edges of n entries that the files give: each choice of one row for each level
unfoldable pub edges_for : ℕ → List File → List (List (List (List ℕ)))
edges_for n files = choices (map (rows_for n files) (edge_levels n))

module _ (digest : List ℕ → List ℕ) where
  -- the strings of the tree of the first entry in the bytes of a bundle, of that of the first two, and so on up to a number
  unfoldable pub strings_of_first : ℕ → List ℕ → List (List ℕ)
  strings_of_first zero bytes = []
  strings_of_first (suc count) bytes = strings_of_first count bytes ++ strings digest (entries_of (suc count) bytes)

  -- the strings that one file leads to: those of the folding of a tile's row, and those of the trees of the first entries of a bundle
  abbrev pub strings_of_file : Path → List ℕ → List (List ℕ)
  strings_of_file Checkpoint bytes = []
  strings_of_file (Tile level index width) bytes = joins digest (row_of bytes)
  strings_of_file (Entries index width) bytes = strings_of_first (length bytes) bytes

  -- the strings that the files lead to beside a log of n entries: those of each file, and those of each edge that they give
  unfoldable pub strings_of_files : ℕ → List File → List (List ℕ)
  strings_of_files n files =
      flat_map (λ file. strings_of_file file.0 file.1) files ++ flat_map (edge_strings digest) (edges_for n files)
