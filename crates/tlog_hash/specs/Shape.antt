-- The shape of a tree, which depends only on the number of its items.
use Rattle.std.specs.Prelude.{ℕ, replicate}
use Rattle.tlog_hash.specs.Tree.{Tree, tree_of}

-- the tree of n items that are all 0
unfoldable pub shape : ℕ → Tree ℕ
shape n = tree_of (replicate n 0)
