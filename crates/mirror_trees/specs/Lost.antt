-- The paths of a subtree's nodes where the walk from its root fails. Only the contracts of private functions cite these
-- words.
use Rattle.std.specs.Prelude.{ℕ, List}
use Rattle.node_store.specs.Strings.{Strings}
use Rattle.tlog_hash.specs.Shape.{shape}
use Rattle.tlog_tiles.specs.declared.paths.Path.{Path}
use Rattle.mirror_model.specs.Front.{IsPathOf}
use Rattle.mirror_model.specs.Walk.{WalkFails}

-- the path is that of a node where the walk fails, in a tree of `total` entries. The walk begins at the hash of `size`
-- entries, and the first of these has the number start
pub record IsLost (digest : List ℕ → List ℕ) (held : Strings) (total start size : ℕ) (hash : List ℕ)
    (path : Path) : Type 0 where
  pub at : ℕ
  pub many : ℕ
  pub fails : WalkFails digest held (shape size) start hash at many
  pub path_is : IsPathOf total at many path
