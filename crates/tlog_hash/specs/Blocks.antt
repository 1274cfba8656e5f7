-- Trees of lists that are cut into blocks of equal size. Tiles cut the tree of a log in this way.
use Rattle.std.specs.Prelude.{◌≡◌, ℕ, ◌≤◌, ◌<◌, List, [], ◌∷◌, length}
use Rattle.std.specs.List.{flat_map}
use Rattle.tlog_hash.specs.Tree.{Tree, Empty, One, Join}

-- the tree with each item mapped
abbrev pub map_tree : {A B : Type 0} → (A → B) → Tree A → Tree B
map_tree f Empty = Empty
map_tree f (One x) = One (f x)
map_tree f (Join l r) = Join (map_tree f l) (map_tree f r)

-- the tree with each item replaced by a tree
abbrev pub graft : {A B : Type 0} → (A → Tree B) → Tree A → Tree B
graft f Empty = Empty
graft f (One x) = f x
graft f (Join l r) = Join (graft f l) (graft f r)

-- each block has b items, except the last, which has 1 to b
abbrev pub IsCut : {A : Type 0} → ℕ → List (List A) → Type 0
IsCut b [] = ⊥
IsCut b (x ∷ []) = (0 < length x) × (length x ≤ b)
IsCut b (x ∷ y ∷ rest) = (length x ≡ b) × IsCut b (y ∷ rest)

-- the items of all blocks, in order
abbrev pub joined_up : {A : Type 0} → List (List A) → List A
joined_up blocks = flat_map (λ block. block) blocks
