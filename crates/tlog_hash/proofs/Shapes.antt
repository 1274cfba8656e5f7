-- The shape of a tree depends only on the length of its list.
use Rattle.std.proofs.Common.{◌≡◌, ℕ, ◌+◌, ◌-◌, ◌≤◌, List, [], ◌∷◌, length, take, drop, map, replicate, sym, refl, ap}
use Rattle.std.proofs.Common.{◌∙◌, arith}
use Rattle.std.proofs.lemmas.List.{length-replicate, take-replicate, drop-replicate}
use Rattle.tlog_shape.specs.Split.{split_of}
use Rattle.tlog_shape.proofs.Splits.{split_of-below}
use Rattle.tlog_hash.specs.Tree.{Tree, Empty, One, Join, tree_of, size_of}
use Rattle.tlog_hash.specs.Blocks.{map_tree}
use Rattle.tlog_hash.specs.Shape.{shape}
use Rattle.tlog_hash.proofs.Trees.{tree_of-one, tree_of-join}
use Rattle.tlog_hash.proofs.Folds.{tree_of-map}
use Rattle.tlog_hash.proofs.NodeStrings.{size_of-tree}

abbrev pub blank : {A : Type 0} → A → ℕ
blank x = 0

map_blank : {A : Type 0} (xs : List A) → map (blank {A = A}) xs ≡ replicate (length xs) 0
map_blank [] = refl
map_blank (x ∷ xs) = ap (λ ys. 0 ∷ ys) (map_blank xs)

-- the tree of a list has the shape of the list's length
pub shape_of : {A : Type 0} (xs : List A) → map_tree (blank {A = A}) (tree_of xs) ≡ shape (length xs)
unfolding shape
shape_of xs = sym (tree_of-map (blank) xs) ∙ ap tree_of (map_blank xs)

pub size_of-map : {A B : Type 0} (f : A → B) (t : Tree A) → size_of (map_tree f t) ≡ size_of t
size_of-map f Empty = refl
size_of-map f (One x) = refl
size_of-map f (Join l r) = λ i. size_of-map f l i + size_of-map f r i

pub size_of-shape : (n : ℕ) → size_of (shape n) ≡ n
unfolding shape
size_of-shape n = size_of-tree (replicate n 0) ∙ length-replicate n 0

pub shape-one : shape 1 ≡ One 0
unfolding shape
shape-one = tree_of-one 0

pub shape-join : (n : ℕ) → 2 ≤ n → shape n ≡ Join (shape (split_of n)) (shape (n - split_of n))
unfolding shape
shape-join n two =
    let blanks : List ℕ = replicate n 0 in
    let len : length blanks ≡ n = length-replicate n 0 in
    let two' : 2 ≤ length blanks = omega arith in
    let below = split_of-below n two in
    tree_of-join blanks two' ∙
    ap (λ m. Join (tree_of (take (split_of m) (replicate n 0))) (tree_of (drop (split_of m) (replicate n 0)))) len ∙
    (λ i. Join (tree_of (take-replicate (split_of n) n 0 (omega (arith, below)) i))
    (tree_of (drop-replicate (split_of n) n 0 i)))
