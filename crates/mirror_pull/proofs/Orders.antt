-- Lists in the order of missing paths, and greatest levels.
use Rattle.std.proofs.Common.{nat_eq, true, false, ◌≡◌, ℕ, zero, suc, ◌+◌, ◌^◌, ◌<◌, ◌≤◌, List, []}
use Rattle.std.proofs.Common.{◌∷◌, length, get_or, arith, refl, sym, ◌∙◌, ap, subst, inl, inr}
use Rattle.std.specs.Ordering.{nat_cmp, ordering_then}
use Rattle.std.specs.Cmp.{nat_cmp_is}
use Rattle.std.specs.declared.cmp.Ordering.{Ordering}
use Rattle.std.specs.declared.cmp.Ordering.TheVariants.{Less, Equal}
use Rattle.std.specs.List.Sorted.{IsStrictlySortedBy}
use Rattle.std.proofs.lemmas.Bool.Decides.{eqb_tells}
use Rattle.std.proofs.lemmas.List.Elements.{All-from_recursion}
use Rattle.tlog_shape.specs.Edge.{width_of, IsTop}
use Rattle.tlog_shape.proofs.Edges.{top_found, top_lowest}
use Rattle.tlog_tiles.specs.declared.paths.Path.{Path}
use Rattle.tlog_tiles.specs.declared.paths.Path.TheVariants.{Checkpoint, Tile, Entries}
use Rattle.mirror_model.specs.Front.{path_cmp}
use Rattle.mirror_model.specs.TrueLaws.{IsWidest}
use Rattle.mirror_sources.specs.Files.{full_of}
use Rattle.mirror_model.proofs.ManyRounds.{one_lower}

nat_same : (n : ℕ) → nat_cmp n n ≡ Equal
nat_same n = sym (nat_cmp_is n n Equal refl)

same_then : (a b : Ordering) → a ≡ Equal → b ≡ Equal → ordering_then a b ≡ Equal
same_then a b e f = λ i. ordering_then (e i) (f i)

path_same : (path : Path) → path_cmp path path ≡ Equal
path_same Checkpoint = refl
path_same (Tile level index width) =
    same_then (nat_cmp level level) (ordering_then (nat_cmp index index) (nat_cmp width width)) (nat_same level)
    (same_then (nat_cmp index index) (nat_cmp width width) (nat_same index) (nat_same width))
path_same (Entries index width) =
    same_then (nat_cmp index index) (nat_cmp width width) (nat_same index) (nat_same width)

not_less : (path : Path) → path_cmp path path ≡ Less → ⊥
not_less path less = let wrong : Less ≡ Equal = sym less ∙ path_same path in cc wrong

-- no path is in such a list twice
pub sorted_differ : (xs : List Path) → IsStrictlySortedBy path_cmp xs → (i j : ℕ) (d : Path) → i < j → j < length xs →
    get_or xs i d ≡ get_or xs j d → ⊥
unfolding IsStrictlySortedBy
sorted_differ [] sorted i j d lt within e = omega (arith, within)
sorted_differ (x ∷ xs) sorted i zero d lt within e = omega (arith, lt)
sorted_differ (x ∷ xs) sorted zero (suc j) d lt within e =
    let less : path_cmp x (get_or xs j d) ≡ Less =
    All-from_recursion (λ y. path_cmp x y ≡ Less) xs sorted.0 j d (omega (arith, within)) in
    not_less x (subst (λ (y : Path). path_cmp x y ≡ Less) (sym e) less)
sorted_differ (x ∷ xs) sorted (suc i) (suc j) d lt within e =
    sorted_differ xs sorted.1 i j d (omega (arith, lt)) (omega (arith, within)) e

-- ---- the widest path with a level and index is unique

abbrev pub kind_of : Path → ℕ
kind_of Checkpoint = 0
kind_of (Tile level index width) = 1
kind_of (Entries index width) = 2

abbrev index_named : Path → ℕ
index_named Checkpoint = 0
index_named (Tile level index width) = index
index_named (Entries index width) = index

pub widest_same : (size : ℕ) (p q : Path) → IsWidest size p → IsWidest size q → full_of p ≡ full_of q → p ≡ q
widest_same size Checkpoint q a b e = absurd a
widest_same size (Tile level index width) Checkpoint a b e = absurd b
widest_same size (Tile level index width) (Tile l i w) a b e = ap (Tile level index) a ∙ (e ∙ sym (ap (Tile l i) b))
widest_same size (Tile level index width) (Entries i w) a b e =
    let k : 1 ≡ 2 = ap kind_of e in absurd (omega (arith, k))
widest_same size (Entries index width) Checkpoint a b e = absurd b
widest_same size (Entries index width) (Tile l i w) a b e = let k : 2 ≡ 1 = ap kind_of e in absurd (omega (arith, k))
widest_same size (Entries index width) (Entries i w) a b e =
    let same : index ≡ i = ap index_named e in
    let wide : width ≡ w = omega (arith, a, b, same) in
    λ k. Entries (same k) (wide k)

-- ---- each size has a greatest level

pub record HasTop (n : ℕ) : Type 0 where
  pub top : ℕ
  pub is : IsTop n top

top_from : (n level : ℕ) → level ≤ 7 → n < 256 ^ (level + 1) → HasTop n
top_from n zero le below = record { top = 0; is = top_lowest n below }
top_from n (suc level) le below = elim (eqb_tells (width_of n (suc level)) 0) [
  | inl none ↦
      (let less : n < 256 ^ (suc level) =
      one_lower n (suc level) below none.1 in let same : 256 ^ suc level ≡ 256 ^ (level + 1) =
      ap (λ (k : ℕ). 256 ^ k) (omega arith) in top_from n level (omega (arith, le)) (omega (arith, less, same)))
  | inr some ↦ (let apart = some.1 in record { top = suc level; is = top_found n (suc level) le below (omega arith) })
]

pub has_top : (n : ℕ) → n < 256 ^ 8 → HasTop n
has_top n small = top_from n 7 (omega arith) small

-- ---- tests for empty lists

pub none_if : (n : ℕ) → nat_eq n 0 ≡ true → n ≡ 0
none_if zero e = refl
none_if (suc n) e =
    elim (eqb_tells (suc n) 0) [ inl a ↦ a.1 | inr b ↦ (let f = b.0 in let t : true ≡ false = sym e ∙ f in absurd cc) ]

pub some_if : (n : ℕ) → nat_eq n 0 ≡ false → 1 ≤ n
some_if zero e =
    elim (eqb_tells 0 0) [
      | inl a ↦ (let f = a.0 in let t : true ≡ false = sym f ∙ e in absurd cc)
      | inr b ↦
          (let apart = b.1 in absurd (apart refl))
    ]
some_if (suc n) e = omega arith
