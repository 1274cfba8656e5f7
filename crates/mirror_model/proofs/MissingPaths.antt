-- The missing paths of a tree head, even if no list of entries fits.
use Rattle.std.proofs.Common.{zero, suc, ◌≡◌, ℕ, ◌+◌, ◌*◌, ◌^◌, ◌<◌, ◌≤◌, List, length, take, drop, replicate}
use Rattle.std.proofs.Common.{length-take, length-drop, sym, refl, subst, inl, inr, arith}
use Rattle.std.proofs.lemmas.Bool.{cases_lt}
use Rattle.std.proofs.Math.Nat.{div-mul-le_self}
use Rattle.tlog_hash.specs.Tree.{Tree, Empty, One, Join, tree_of, size_of}
use Rattle.tlog_hash.specs.Shape.{shape}
use Rattle.tlog_hash.proofs.Shapes.{size_of-shape}
use Rattle.tlog_hash.proofs.Trees.{tree_of-none, tree_of-one, tree_of-join, induction}
use Rattle.tlog_shape.specs.Split.{split_of}
use Rattle.tlog_shape.proofs.Splits.{split_of-below, split_of-positive}
use Rattle.tlog_shape.proofs.Levels.{level_mono}
use Rattle.std.proofs.lemmas.List.{length-replicate}
use Rattle.tlog_tiles.specs.declared.paths.Path.{Path}
use Rattle.tlog_tiles.specs.declared.paths.Path.TheVariants.{Checkpoint, Tile, Entries}
use Rattle.mirror_model.specs.Front.{IsPathOf}
use Rattle.node_store.specs.Strings.{Strings}
use Rattle.mirror_model.specs.Walk.{WalkFails}
use Rattle.mirror_model.specs.TreeLaws.{IsOfSize, MissingIsOfSize}

-- the range of a node of the tree
pub record IsSpan (start len at many : ℕ) : Type 0 where
  pub from : start ≤ at
  pub upto : at + many ≤ start + len

pub fails_inside : (digest : List ℕ → List ℕ) (held : Strings) (t : Tree ℕ) (start : ℕ) (hash : List ℕ) (at many : ℕ) →
    WalkFails digest held t start hash at many → IsSpan start (size_of t) at many
fails_inside digest held Empty start hash at many f = absurd f
fails_inside digest held (One x) start hash at many f =
    record { from = omega (arith, f.0.at_is); upto = omega (arith, f.0.at_is, f.0.many_is) }
fails_inside digest held (Join l r) start hash at many (inl f) =
    record { from = omega (arith, f.0.at_is); upto = omega (arith, f.0.at_is, f.0.many_is) }
fails_inside digest held (Join l r) start hash at many (inr f) = elim f.3 [
  | inl a ↦ let i =
      fails_inside digest held l start f.0 at many a in record { from = i.from; upto = omega (arith, i.upto) }
  | inr a ↦ let i =
      fails_inside digest held r (start + size_of l) f.1 at many a in record
      { from = omega (arith, i.from); upto = omega (arith, i.upto) }
]

-- no part of the tree is empty
abbrev IsSolid : Tree ℕ → Type 0
IsSolid Empty = ⊥
IsSolid (One x) = Unit {0}
IsSolid (Join l r) = IsSolid l × IsSolid r

solid_some : (t : Tree ℕ) → IsSolid t → 1 ≤ size_of t
solid_some Empty h = absurd h
solid_some (One x) h = omega arith
solid_some (Join l r) h = omega (arith, solid_some l h.0)

fails_some : (digest : List ℕ → List ℕ) (held : Strings) (t : Tree ℕ) (start : ℕ) (hash : List ℕ) (at many : ℕ) →
    IsSolid t → WalkFails digest held t start hash at many → 1 ≤ many
fails_some digest held Empty start hash at many solid f = absurd f
fails_some digest held (One x) start hash at many solid f = omega (arith, f.0.many_is)
fails_some digest held (Join l r) start hash at many solid (inl f) =
    omega (arith, f.0.many_is, solid_some (Join l r) solid)
fails_some digest held (Join l r) start hash at many solid (inr f) = elim f.3 [
  | inl a ↦ fails_some digest held l start f.0 at many solid.0 a
  | inr a ↦ fails_some digest held r (start + size_of l) f.1 at many solid.1 a
]

solid_tree : (xs : List ℕ) → 1 ≤ length xs → IsSolid (tree_of xs)
solid_tree xs =
    induction (λ xs. 1 ≤ length xs → IsSolid (tree_of xs)) (λ some. absurd (omega arith))
    (λ x some. subst IsSolid (sym (tree_of-one x)) tt) more xs
  where
    more : (xs : List ℕ) → 2 ≤ length xs →
        (1 ≤ length (take (split_of (length xs)) xs) → IsSolid (tree_of (take (split_of (length xs)) xs))) →
        (1 ≤ length (drop (split_of (length xs)) xs) → IsSolid (tree_of (drop (split_of (length xs)) xs))) →
        1 ≤ length xs → IsSolid (tree_of xs)
    more xs two l r some =
        let k = split_of (length xs) in
        let below = split_of-below (length xs) two in
        let positive = split_of-positive (length xs) two in
        subst IsSolid (sym (tree_of-join xs two))
        (l (omega (arith, length-take k xs, below, positive)), r (omega (arith, length-drop k xs, below)))

solid_shape : (size : ℕ) → 1 ≤ size → IsSolid (shape size)
unfolding shape
solid_shape size some =
    let zeros : List ℕ =
    replicate size 0 in let len : length zeros ≡ size = length-replicate size 0 in solid_tree zeros (omega (arith, len))

-- the walk of an empty tree fails nowhere
no_fails : (digest : List ℕ → List ℕ) (held : Strings) (start : ℕ) (root : List ℕ) (at many : ℕ) →
    WalkFails digest held (shape 0) start root at many → ⊥
unfolding shape
no_fails digest held start root at many f = subst (λ t. WalkFails digest held t start root at many) tree_of-none f

pub missing_is_of_size : MissingIsOfSize
missing_is_of_size digest held size root small path m = at path size refl m.path_is
  where
    inside : IsSpan 0 size m.at m.many
    inside = subst (λ n. IsSpan 0 n m.at m.many) (size_of-shape size)
        (fails_inside digest held (shape size) 0 root m.at m.many m.fails)

    some_of : (n : ℕ) → size ≡ n → 1 ≤ m.many
    some_of zero z =
        absurd (no_fails digest held 0 root m.at m.many
        (subst (λ n. WalkFails digest held (shape n) 0 root m.at m.many) z m.fails))
    some_of (suc n) z =
        fails_some digest held (shape size) 0 root m.at m.many (solid_shape size (omega (arith, z))) m.fails

    at : (path : Path) (n : ℕ) → size ≡ n → IsPathOf size m.at m.many path → IsOfSize size path
    at Checkpoint n z p = p
    at (Tile level index width) n z p =
        let low : index * 256 ^ (level + 1) ≤ m.at =
        subst (λ i. i * 256 ^ (level + 1) ≤ m.at) (sym p.tile.index_is)
        (div-mul-le_self m.at (256 ^ (level + 1))) in (
          some_level level p.many p.tile.upto,
          top_level level (omega (arith, p.tile.above, inside.upto, small)),
          p.width_is,
          omega (arith, low, inside.upto, p.many),
        )
      where
        some_level : (level : ℕ) → 256 < m.many → m.many ≤ 256 ^ (level + 1) → 1 ≤ level
        some_level zero many upto = let one : 256 ^ (0 + 1) ≡ 256 = refl in absurd (omega (arith, many, upto, one))
        some_level (suc l) many upto = omega arith

        top_level : (level : ℕ) → 256 ^ level < 256 ^ 8 → level ≤ 7
        top_level level lt =
            elim (cases_lt level 8) [
              | inl a ↦ omega (arith, a)
              | inr a ↦ absurd
                  (let more = level_mono 8 level a in omega (arith, more, lt))
            ]
    at (Entries index width) n z p =
        let low : index * 256 ≤ m.at = subst (λ i. i * 256 ≤ m.at) (sym p.index_is) (div-mul-le_self m.at 256) in
        let some = some_of n z in
        (omega (arith, p.width_is, low, inside.upto, some), p.width_is, omega (arith, low, inside.upto, some))
