-- The pieces of the lines of missing paths. Only the contracts of private functions cite these words.
use Rattle.std.specs.Prelude.{ℕ, zero, suc, ◌%◌, List, [], ◌∷◌, ◌++◌, map, codes}
use Rattle.std.specs.Fmt.{decimal}
use Rattle.tlog_hash.specs.Shape.{shape}
use Rattle.tlog_tiles.specs.declared.paths.Path.{Path}
use Rattle.node_store.specs.Strings.{Strings}
use Rattle.mirror_trees.specs.Levels.{ListsLost, fresh_from, path_at}

-- how the line of each file of a level begins; level 0 has the bundles
abbrev pub begin_text : ℕ → List ℕ
begin_text zero = codes "tile/entries/"
begin_text (suc level) = codes "tile/" ++ (decimal (suc level) ++ codes "/")

-- how the line of a tree's partial bundle ends
abbrev pub part_text : ℕ → List ℕ
part_text size = codes ".p/" ++ (decimal (size % 256) ++ 10 ∷ [])

-- the paths of a level's files with these numbers
abbrev pub level_paths : ℕ → ℕ → List ℕ → List Path
level_paths size level numbers = map (path_at size level) (fresh_from 0 numbers)

-- the numbers are those of the missing files of that level
abbrev pub IsLevelOf : (List ℕ → List ℕ) → Strings → ℕ → List ℕ → ℕ → List ℕ → Type 0
IsLevelOf digest held size root level numbers =
    ListsLost digest held level (shape size) 0 root numbers
