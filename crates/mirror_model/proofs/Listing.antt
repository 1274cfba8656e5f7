-- Two lists in strict order with the same items are equal.
use Rattle.std.proofs.Common.{zero, suc, ◌≡◌, List, [], ◌∷◌, sym, refl, ap, ◌∙◌, subst, ◌⊎◌, inl, inr, arith}
use Rattle.std.specs.Ordering.{nat_cmp, ordering_then, ordering_reverse}
use Rattle.std.specs.declared.cmp.Ordering.{Ordering}
use Rattle.std.specs.declared.cmp.Ordering.TheVariants.{Less, Equal, Greater}
use Rattle.std.specs.Cmp.{nat_cmp_total}
use Rattle.std.specs.Cmp.Lexicographic.{slice_cmp, nat_list_cmp_total}
use Rattle.std.specs.List.{Contains, AllByRecursion}
use Rattle.std.specs.List.Sorted.{IsStrictlySortedBy}
use Rattle.std.proofs.lemmas.List.Elements.{All-contains, All-nil, All-from_recursion}
use Rattle.tlog_tiles.specs.declared.paths.Path.{Path}
use Rattle.tlog_tiles.specs.declared.paths.Path.TheVariants.{Checkpoint, Tile, Entries}
use Rattle.mirror_model.specs.Forks.{Point, point_cmp}
use Rattle.mirror_model.specs.Front.{path_cmp}
use Rattle.mirror_model.specs.Listed.{PointPair, pair_cmp, NotesAreListedOnce, HeadsAreListedOnce, ForksAreListedOnce}
use Rattle.mirror_model.specs.Listed.{MissingIsListedOnce, FrontIsListedOnce}

-- ---- the first of a list and the others

module _ {X : Type 0} where
  pub head_or : (x : X) (xs : List X) (y : X) → Contains (x ∷ xs) y → (x ≡ y) ⊎ Contains xs y
  head_or x xs y (zero, lt, is) = inl is
  head_or x xs y (suc k, lt, is) = inr (k, omega (arith, lt), is)

  pub later : (x : X) (xs : List X) (y : X) → Contains xs y → Contains (x ∷ xs) y
  later x xs y (k, lt, is) = (suc k, omega (arith, lt), is)

  pub here : (x : X) (xs : List X) → Contains (x ∷ xs) x
  here x xs = (zero, omega arith, refl)

-- ---- lists in order

module _ {X : Type 0} (cmp : X → X → Ordering) (turns : (x y : X) → cmp x y ≡ ordering_reverse (cmp y x)) where
  never_both : (x y : X) → cmp x y ≡ Less → cmp y x ≡ Less → ⊥
  never_both x y a b = let wrong : Less ≡ Greater = sym a ∙ turns x y ∙ ap ordering_reverse b in cc wrong

  above : (x : X) (xs : List X) → AllByRecursion (λ y. cmp x y ≡ Less) xs → (y : X) → Contains xs y → cmp x y ≡ Less
  above x xs all y c = All-contains (λ y. cmp x y ≡ Less) xs y (All-from_recursion (λ y. cmp x y ≡ Less) xs all) c

  nothing_in : (y : X) → Contains {X = X} [] y → ⊥
  nothing_in y c = All-contains (λ z. ⊥) [] y (All-nil (λ z. ⊥)) c

  -- the rest of two lists with the same first item
  rest_in : (x y : X) (xs ys : List X) → x ≡ y → AllByRecursion (λ z. cmp x z ≡ Less) xs →
      ((z : X) → Contains (x ∷ xs) z → Contains (y ∷ ys) z) → (z : X) → Contains xs z → Contains ys z
  rest_in x y xs ys same all to z c =
      elim (head_or y ys z (to z (later x xs z c))) [
        | inr there ↦ there
        | inl e ↦ absurd
            (let here : cmp x x ≡ Less =
            subst (λ w. cmp x w ≡ Less) (sym (same ∙ e)) (above x xs all z c) in never_both x x here here)
      ]

  pub same_lists : (xs ys : List X) → IsStrictlySortedBy cmp xs → IsStrictlySortedBy cmp ys →
      ((z : X) → Contains xs z → Contains ys z) → ((z : X) → Contains ys z → Contains xs z) → xs ≡ ys
  unfolding IsStrictlySortedBy
  same_lists [] [] p q to from = refl
  same_lists [] (y ∷ ys) p q to from = absurd (nothing_in y (from y (0, omega arith, refl)))
  same_lists (x ∷ xs) [] p q to from = absurd (nothing_in x (to x (0, omega arith, refl)))
  same_lists (x ∷ xs) (y ∷ ys) p q to from =
      let first : x ≡ y = elim (head_or y ys x (to x (0, omega arith, refl))) [
        | inl e ↦ sym e
        | inr there ↦ elim (head_or x xs y (from y (0, omega arith, refl))) [
          | inl e ↦ e
          | inr back ↦ absurd (never_both x y (above x xs p.0 y back) (above y ys q.0 x there))
        ]
      ] in
      let rest : xs ≡ ys =
      same_lists xs ys p.1 q.1 (rest_in x y xs ys first p.0 to) (rest_in y x ys xs (sym first) q.0 from) in
      λ i. first i ∷ rest i

-- ---- the orders

turn_then : (a a' b b' : Ordering) → a ≡ ordering_reverse a' → b ≡ ordering_reverse b' →
    ordering_then a b ≡ ordering_reverse (ordering_then a' b')
turn_then a a' b b' e f = (λ i. ordering_then (e i) (f i)) ∙ both a' b'
  where
    both : (c d : Ordering) →
        ordering_then (ordering_reverse c) (ordering_reverse d) ≡ ordering_reverse (ordering_then c d)
    both Less d = refl
    both Equal d = refl
    both Greater d = refl

point_turns : (a b : Point) → point_cmp a b ≡ ordering_reverse (point_cmp b a)
point_turns a b =
    turn_then (nat_cmp a.size b.size) (nat_cmp b.size a.size) (slice_cmp nat_cmp a.root b.root)
    (slice_cmp nat_cmp b.root a.root) (nat_cmp_total.antisymm a.size b.size) (nat_list_cmp_total.antisymm a.root b.root)

pair_turns : (a b : PointPair) → pair_cmp a b ≡ ordering_reverse (pair_cmp b a)
pair_turns a b =
    turn_then (point_cmp a.small b.small) (point_cmp b.small a.small) (point_cmp a.large b.large)
    (point_cmp b.large a.large) (point_turns a.small b.small) (point_turns a.large b.large)

path_turns : (a b : Path) → path_cmp a b ≡ ordering_reverse (path_cmp b a)
path_turns (Tile level index width) (Tile l i w) =
    turn_then (nat_cmp l level) (nat_cmp level l) (ordering_then (nat_cmp index i) (nat_cmp width w))
    (ordering_then (nat_cmp i index) (nat_cmp w width)) (nat_cmp_total.antisymm l level)
    (turn_then (nat_cmp index i) (nat_cmp i index) (nat_cmp width w) (nat_cmp w width) (nat_cmp_total.antisymm index i)
    (nat_cmp_total.antisymm width w))
path_turns (Tile level index width) (Entries i w) = refl
path_turns (Tile level index width) Checkpoint = refl
path_turns (Entries index width) (Tile l i w) = refl
path_turns (Entries index width) (Entries i w) =
    turn_then (nat_cmp index i) (nat_cmp i index) (nat_cmp width w) (nat_cmp w width) (nat_cmp_total.antisymm index i)
    (nat_cmp_total.antisymm width w)
path_turns (Entries index width) Checkpoint = refl
path_turns Checkpoint (Tile l i w) = refl
path_turns Checkpoint (Entries i w) = refl
path_turns Checkpoint Checkpoint = refl

-- ---- the lists that calls return

pub notes_are_listed_once : NotesAreListedOnce
notes_are_listed_once v first second p q =
    same_lists (slice_cmp nat_cmp) nat_list_cmp_total.antisymm first second p.sorted q.sorted
    (λ z c. (q.exact z).1 ((p.exact z).0 c)) (λ z c. (p.exact z).1 ((q.exact z).0 c))

pub heads_are_listed_once : HeadsAreListedOnce
heads_are_listed_once v first second p q =
    same_lists point_cmp point_turns first second p.sorted q.sorted (λ z c. (q.exact z).1 ((p.exact z).0 c))
    (λ z c. (p.exact z).1 ((q.exact z).0 c))

pub forks_are_listed_once : ForksAreListedOnce
forks_are_listed_once digest v first second p q =
    same_lists pair_cmp pair_turns first second p.sorted q.sorted (λ z c. (q.exact z).1 ((p.exact z).0 c))
    (λ z c. (p.exact z).1 ((q.exact z).0 c))

pub missing_is_listed_once : MissingIsListedOnce
missing_is_listed_once digest v size root first second p q =
    same_lists path_cmp path_turns first second p.sorted q.sorted (λ z c. (q.exact z).1 ((p.exact z).0 c))
    (λ z c. (p.exact z).1 ((q.exact z).0 c))

pub front_is_listed_once : FrontIsListedOnce
front_is_listed_once digest v entries first second p q =
    same_lists path_cmp path_turns first second p.sorted q.sorted (λ z c. (q.exact z).1 ((p.exact z).0 c))
    (λ z c. (p.exact z).1 ((q.exact z).0 c))
