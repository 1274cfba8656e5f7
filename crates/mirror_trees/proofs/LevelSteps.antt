-- The numbers of a level's missing files, as the walk meets them.
use Rattle.std.proofs.Common.{zero, suc, ◌≡◌, ℕ, ◌+◌, ◌-◌, ◌/◌, ◌^◌, ◌<◌, ◌≤◌, List, [], ◌∷◌, ◌++◌, length, take, drop}
use Rattle.std.proofs.Common.{replicate, sym, refl, ap, ◌∙◌, subst, arith, ◌⊎◌, inl, inr, length-take, length-drop}
use Rattle.std.specs.Prelude.{⊤, Bool, true, false, not, IsTrue}
use Rattle.std.specs.FinSet as set
use Rattle.std.specs.List.{Contains}
use Rattle.std.proofs.Math.Nat.{div-mul-le_self}
use Rattle.std.proofs.lemmas.Bool.{cases_lt}
use Rattle.std.proofs.lemmas.Nat.{le-div}
use Rattle.std.proofs.lemmas.List.{length-replicate}
use Rattle.std.proofs.lemmas.List.Elements.{All-contains, All-nil, Contains-append_left, Contains-append_right}
use Rattle.std.proofs.lemmas.List.Elements.{Contains-append_cases}
use Rattle.tlog_shape.specs.Split.{split_of}
use Rattle.tlog_shape.proofs.Splits.{split_of-below, split_of-positive}
use Rattle.tlog_hash.specs.Tree.{Tree, Empty, One, Join, tree_of, size_of}
use Rattle.tlog_hash.specs.Shape.{shape}
use Rattle.tlog_hash.proofs.Shapes.{shape-one, shape-join, size_of-shape}
use Rattle.tlog_hash.proofs.Trees.{tree_of-one, tree_of-join, induction}
use Rattle.tlog_hash.proofs.PairStrings.{left_is, right_is}
use Rattle.node_store.specs.Strings.{Strings, Has, IsHeldAt, NoClash}
use Rattle.mirror_model.specs.Complete.{IsBuilt}
use Rattle.mirror_model.specs.Walk.{WalkFails, IsPairHeld}
use Rattle.mirror_model.proofs.Missing.{IsLeafOf, IsPairOf, is_leaf, is_pair, search_set}
use Rattle.mirror_model.specs.Forks.{Point}
use Rattle.mirror_model.specs.Marks.{Points}
use Rattle.mirror_trees.specs.HeldTrees.{HasMark}
use Rattle.mirror_trees.specs.Levels.{IsOfLevel, ListsNode, ListsLost, IsClear, AreClear}
use Rattle.mirror_trees.proofs.EmptySets.{no_mark}
use Rattle.mirror_trees.proofs.Losses.{built_not_fails}
use Rattle.mirror_trees.proofs.SliceSteps.{point_at}

-- ---- numbers

pub div_mono : (a b unit : ℕ) → 0 < unit → a ≤ b → a / unit ≤ b / unit
div_mono a b unit some le =
    le-div (a / unit) b unit some (let self = div-mul-le_self a unit in omega (arith, self, le))

pub nothing_in : {X : Type 0} (y : X) → Contains {X = X} [] y → ⊥
nothing_in y c = All-contains (λ z. ⊥) [] y (All-nil (λ z. ⊥)) c

one_in : {X : Type 0} (x y : X) → Contains (x ∷ []) y → x ≡ y
one_in x y (zero, lt, is) = is
one_in x y (suc k, lt, is) = absurd (omega (arith, lt))

pub never_both : (b : Bool) → IsTrue (not b) → IsTrue b → ⊥
never_both true h e = absurd (cc h)
never_both false h e = absurd (cc e)

-- ---- trees that have an entry in each part

abbrev pub IsFull : Tree ℕ → Type 0
IsFull Empty = ⊥
IsFull (One x) = ⊤
IsFull (Join l r) = IsFull l × IsFull r

pub full_some : (t : Tree ℕ) → IsFull t → 1 ≤ size_of t
full_some Empty full = absurd full
full_some (One x) full = omega arith
full_some (Join l r) full = omega (arith, full_some l full.0)

abbrev HasFullTree : List ℕ → Type 0
HasFullTree xs = 1 ≤ length xs → IsFull (tree_of xs)

pub full_shape : (n : ℕ) → 1 ≤ n → IsFull (shape n)
unfolding shape
full_shape n some =
    let zeros : List ℕ = replicate n 0 in
    let len : length zeros ≡ n = length-replicate n 0 in
    induction HasFullTree none one join zeros (omega (arith, len, some))
  where
    none : HasFullTree []
    none some = absurd (omega (arith, some))

    one : (x : ℕ) → HasFullTree (x ∷ [])
    one x some = subst IsFull (sym (tree_of-one x)) tt

    join : (xs : List ℕ) → 2 ≤ length xs → HasFullTree (take (split_of (length xs)) xs) →
        HasFullTree (drop (split_of (length xs)) xs) → HasFullTree xs
    join xs two left right some =
        let below = split_of-below (length xs) two in
        let positive = split_of-positive (length xs) two in
        subst IsFull (sym (tree_of-join xs two)) (
          left (omega (arith, length-take (split_of (length xs)) xs, below, positive)),
          right (omega (arith, length-drop (split_of (length xs)) xs, below)),
        )

module _ (level : ℕ) where
  abbrev unit : ℕ
  unit = 256 ^ (level + 1)

  decide_level : (many : ℕ) → IsOfLevel level many ⊎ (IsOfLevel level many → ⊥)
  decide_level many = elim (cases_lt unit many) [
    | inl over ↦ inr (λ h. omega (arith, h.upto, over))
    | inr upto ↦ elim (cases_lt 0 level) [
      | inr none ↦ inl (record { above = inl (omega (arith, none)); upto = upto })
      | inl some ↦ elim (cases_lt (256 ^ level) many) [
        | inl above ↦ inl (record { above = inr above; upto = upto })
        | inr below ↦ inr (λ h. elim h.above [
          | inl is ↦ omega (arith, is, some)
          | inr above ↦ omega (arith, above, below)
        ])
      ]
    ]
  ]

  record HasNumbers (start many : ℕ) : Type 0 where
    numbers : List ℕ
    lists : ListsNode level start many numbers

  some_node : (start many : ℕ) → HasNumbers start many
  some_node start many = elim (decide_level many) [
    | inl is ↦ record { numbers = start / unit ∷ []; lists = inl (is, refl) }
    | inr not ↦ record { numbers = []; lists = inr (not, refl) }
  ]

  -- no file of a level from 1 on has a node of few entries
  pub few_none : (start many : ℕ) (numbers : List ℕ) → 1 ≤ level → many ≤ 256 ^ level →
      ListsNode level start many numbers → numbers ≡ []
  few_none start many numbers some few (inr n) = n.1
  few_none start many numbers some few (inl n) = elim n.0.above [
    | inl is ↦ absurd (omega (arith, is, some))
    | inr above ↦ absurd (omega (arith, above, few))
  ]

  module _ (digest : List ℕ → List ℕ) (held : Strings) where
    abbrev Fails : Tree ℕ → ℕ → List ℕ → ℕ → ℕ → Type 0
    Fails t start hash at many = WalkFails digest held t start hash at many

    abbrev Lists : Tree ℕ → ℕ → List ℕ → List ℕ → Type 0
    Lists t start hash numbers = ListsLost digest held level t start hash numbers

    -- ---- there is such a list

    pub record HasLost (t : Tree ℕ) (start : ℕ) (hash : List ℕ) : Type 0 where
      pub numbers : List ℕ
      pub lists : Lists t start hash numbers

    pub some_lost : (t : Tree ℕ) (start : ℕ) (hash : List ℕ) → HasLost t start hash
    some_lost Empty start hash = record { numbers = []; lists = refl }
    some_lost (One x) start hash = elim (search_set (IsLeafOf digest hash) (is_leaf digest hash) held) [
      | inl f ↦
          let l = f.meets in
          record {
            numbers = [];
            lists = inl (
              l.entry,
              record {
                is_held = subst (λ s. Has held s) l.is f.has;
                digest_is = ap digest (sym l.is) ∙ l.digest_is;
              },
              refl,
            );
          }
      | inr none ↦
          let node = some_node start 1 in
          record {
            numbers = node.numbers;
            lists = inr (
              λ e h. none (0 ∷ e) h.is_held (record { entry = e; is = refl; digest_is = h.digest_is }),
              node.lists,
            );
          }
    ]
    some_lost (Join l r) start hash = elim (search_set (IsPairOf digest hash) (is_pair digest hash) held) [
      | inl f ↦
          let p = f.meets in
          let a = some_lost l start p.left in
          let b = some_lost r (start + size_of l) p.right in
          record {
            numbers = a.numbers ++ b.numbers;
            lists = inr (
              p.left,
              p.right,
              a.numbers,
              b.numbers,
              record {
                left_len = p.left_len;
                right_len = p.right_len;
                is = record {
                  is_held = subst (λ s. Has held s) p.is f.has;
                  digest_is = ap digest (sym p.is) ∙ p.digest_is;
                };
              },
              a.lists,
              b.lists,
              refl,
            );
          }
      | inr none ↦
          let node = some_node start (size_of l + size_of r) in
          record {
            numbers = node.numbers;
            lists = inl (
              λ x y q. none (1 ∷ x ++ y) q.is.is_held
                  (record {
                    left = x;
                    right = y;
                    left_len = q.left_len;
                    right_len = q.right_len;
                    is = refl;
                    digest_is = q.is.digest_is;
                  }),
              node.lists,
            );
          }
    ]

    -- ---- an empty list

    pub none_lost : (t : Tree ℕ) (start : ℕ) (hash numbers : List ℕ) → Lists t start hash numbers →
        ((at many : ℕ) → Fails t start hash at many → ⊥) → numbers ≡ []
    none_lost Empty start hash numbers is none = is
    none_lost (One x) start hash numbers (inl h) none = h.2
    none_lost (One x) start hash numbers (inr h) none =
        absurd (none start 1 (record { at_is = refl; many_is = refl }, h.0))
    none_lost (Join l r) start hash numbers (inl h) none =
        absurd (none start (size_of l + size_of r) (inl (record { at_is = refl; many_is = refl }, h.0)))
    none_lost (Join l r) start hash numbers (inr (x, y, xs, ys, pair, ls, rs, is)) none =
        let a = none_lost l start x xs ls (λ at many f. none at many (inr (x, y, pair, inl f))) in
        let b = none_lost r (start + size_of l) y ys rs (λ at many f. none at many (inr (x, y, pair, inr f))) in
        is ∙ (λ i. a i ++ b i)

    pub few_lost : (t : Tree ℕ) (start : ℕ) (hash numbers : List ℕ) → 1 ≤ level → size_of t ≤ 256 ^ level →
        Lists t start hash numbers → numbers ≡ []
    few_lost Empty start hash numbers some few is = is
    few_lost (One x) start hash numbers some few (inl h) = h.2
    few_lost (One x) start hash numbers some few (inr h) = few_none start 1 numbers some few h.1
    few_lost (Join l r) start hash numbers some few (inl h) =
        few_none start (size_of l + size_of r) numbers some few h.1
    few_lost (Join l r) start hash numbers some few (inr (x, y, xs, ys, pair, ls, rs, is)) =
        let a = few_lost l start x xs some (omega (arith, few)) ls in
        let b = few_lost r (start + size_of l) y ys some (omega (arith, few)) rs in
        is ∙ (λ i. a i ++ b i)

    -- ---- the nodes where the walk fails

    pub record IsWithin (start size at many : ℕ) : Type 0 where
      pub from : start ≤ at
      pub to : at + many ≤ start + size
      pub some : 1 ≤ many

    pub fails_within : (t : Tree ℕ) → IsFull t → (start : ℕ) (hash : List ℕ) (at many : ℕ) → Fails t start hash at many →
        IsWithin start (size_of t) at many
    fails_within Empty full start hash at many f = absurd f
    fails_within (One x) full start hash at many f =
        let a = f.0.at_is in
        let m = f.0.many_is in
        record { from = omega (arith, a); to = omega (arith, a, m); some = omega (arith, m) }
    fails_within (Join l r) full start hash at many (inl f) =
        let a = f.0.at_is in
        let m = f.0.many_is in
        let some = full_some l full.0 in
        record { from = omega (arith, a); to = omega (arith, a, m); some = omega (arith, m, some) }
    fails_within (Join l r) full start hash at many (inr (x, y, pair, inl f)) =
        let w = fails_within l full.0 start x at many f in
        record { from = w.from; to = omega (arith, w.to); some = w.some }
    fails_within (Join l r) full start hash at many (inr (x, y, pair, inr f)) =
        let w = fails_within r full.1 (start + size_of l) y at many f in
        record { from = omega (arith, w.from); to = omega (arith, w.to); some = w.some }

    -- the file's number is that of a node where the walk fails
    pub record IsLostNumber (t : Tree ℕ) (start : ℕ) (hash : List ℕ) (number : ℕ) : Type 0 where
      pub at : ℕ
      pub many : ℕ
      pub fails : Fails t start hash at many
      pub is_of_level : IsOfLevel level many
      pub number_is : number ≡ at / unit

    of_node : (start many number : ℕ) (numbers : List ℕ) → ListsNode level start many numbers →
        Contains numbers number → IsOfLevel level many × (number ≡ start / unit)
    of_node start many number numbers (inl n) c =
        (n.0, sym (one_in (start / unit) number (subst (λ ns. Contains ns number) n.1 c)))
    of_node start many number numbers (inr n) c = absurd (nothing_in number (subst (λ ns. Contains ns number) n.1 c))

    has_node : (start many : ℕ) (numbers : List ℕ) → ListsNode level start many numbers → IsOfLevel level many →
        Contains numbers (start / unit)
    has_node start many numbers (inl n) is = subst (λ ns. Contains ns (start / unit)) (sym n.1) (zero, omega arith, refl)
    has_node start many numbers (inr n) is = absurd (n.0 is)

    pub number_lost : (t : Tree ℕ) (start : ℕ) (hash numbers : List ℕ) → Lists t start hash numbers → (number : ℕ) →
        Contains numbers number → IsLostNumber t start hash number
    number_lost Empty start hash numbers is number c =
        absurd (nothing_in number (subst (λ ns. Contains ns number) is c))
    number_lost (One x) start hash numbers (inl h) number c =
        absurd (nothing_in number (subst (λ ns. Contains ns number) h.2 c))
    number_lost (One x) start hash numbers (inr h) number c =
        let n = of_node start 1 number numbers h.1 c in
        record {
          at = start;
          many = 1;
          fails = (record { at_is = refl; many_is = refl }, h.0);
          is_of_level = n.0;
          number_is = n.1;
        }
    number_lost (Join l r) start hash numbers (inl h) number c =
        let n = of_node start (size_of l + size_of r) number numbers h.1 c in
        record {
          at = start;
          many = size_of l + size_of r;
          fails = inl (record { at_is = refl; many_is = refl }, h.0);
          is_of_level = n.0;
          number_is = n.1;
        }
    number_lost (Join l r) start hash numbers (inr (x, y, xs, ys, pair, ls, rs, is)) number c =
        elim (Contains-append_cases xs ys number (subst (λ ns. Contains ns number) is c)) [
          | inl a ↦
              let m = number_lost l start x xs ls number a in
              record {
                at = m.at;
                many = m.many;
                fails = inr (x, y, pair, inl m.fails);
                is_of_level = m.is_of_level;
                number_is = m.number_is;
              }
          | inr b ↦
              let m = number_lost r (start + size_of l) y ys rs number b in
              record {
                at = m.at;
                many = m.many;
                fails = inr (x, y, pair, inr m.fails);
                is_of_level = m.is_of_level;
                number_is = m.number_is;
              }
        ]

    -- a hash has one pair
    module _ (clean : NoClash digest held) (hash : List ℕ) where
      pub pair_once : (x y l r : List ℕ) → IsPairHeld digest held hash x y → IsPairHeld digest held hash l r →
          (x ≡ l) × (y ≡ r)
      pair_once x y l r p q =
          let same : 1 ∷ x ++ y ≡ 1 ∷ l ++ r =
          clean.same (1 ∷ x ++ y) (1 ∷ l ++ r) p.is.is_held q.is.is_held (p.is.digest_is ∙ sym q.is.digest_is) in
          let lens : length x ≡ length l = p.left_len ∙ sym q.left_len in
          (left_is x y l r lens same, right_is x y l r lens same)

    pub lost_number : NoClash digest held → (t : Tree ℕ) (start : ℕ) (hash numbers : List ℕ) →
        Lists t start hash numbers → (at many : ℕ) → Fails t start hash at many → IsOfLevel level many →
        Contains numbers (at / unit)
    lost_number clean Empty start hash numbers is at many f of = absurd f
    lost_number clean (One x) start hash numbers (inl h) at many f of = absurd (f.1 h.0 h.1)
    lost_number clean (One x) start hash numbers (inr h) at many f of =
        subst (λ n. Contains numbers (n / unit)) (sym f.0.at_is)
        (has_node start 1 numbers h.1 (subst (IsOfLevel level) f.0.many_is of))
    lost_number clean (Join l r) start hash numbers (inl h) at many (inl f) of =
        subst (λ n. Contains numbers (n / unit)) (sym f.0.at_is)
        (has_node start (size_of l + size_of r) numbers h.1 (subst (IsOfLevel level) f.0.many_is of))
    lost_number clean (Join l r) start hash numbers (inl h) at many (inr f) of = absurd (h.0 f.0 f.1 f.2)
    lost_number clean (Join l r) start hash numbers (inr (x, y, xs, ys, pair, ls, rs, is)) at many (inl f) of =
        absurd (f.1 x y pair)
    lost_number clean (Join l r) start hash numbers (inr (x, y, xs, ys, pair, ls, rs, is)) at many (inr (u, v, p, f)) of =
        let same = pair_once clean hash u v x y p pair in
        subst (λ ns. Contains ns (at / unit)) (sym is)
        (elim f [
          | inl a ↦ Contains-append_left xs ys (at / unit)
              (lost_number clean l start x xs ls at many (subst (λ h. Fails l start h at many) same.0 a) of)
          | inr b ↦ Contains-append_right xs ys (at / unit)
              (lost_number clean r (start + size_of l) y ys rs at many
              (subst (λ h. Fails r (start + size_of l) h at many) same.1 b) of)
        ])

    -- ---- the step of a walk

    module _ (start : ℕ) (hash numbers : List ℕ) where
      pub leaf_lists : Lists (shape 1) start hash numbers →
          ((entry : List ℕ) → IsHeldAt digest held hash (0 ∷ entry) → ⊥) → ListsNode level start 1 numbers
      leaf_lists lists none = at (subst (λ t. Lists t start hash numbers) shape-one lists)
        where
          at : Lists (One 0) start hash numbers → ListsNode level start 1 numbers
          at (inl h) = absurd (none h.0 h.1)
          at (inr h) = h.1

      pub leaf_clear : Lists (shape 1) start hash numbers → (entry : List ℕ) →
          IsHeldAt digest held hash (0 ∷ entry) → numbers ≡ []
      leaf_clear lists entry h = at (subst (λ t. Lists t start hash numbers) shape-one lists)
        where
          at : Lists (One 0) start hash numbers → numbers ≡ []
          at (inl g) = g.2
          at (inr g) = absurd (g.0 entry h)

      module _ (n : ℕ) (two : 2 ≤ n) (lists : Lists (shape n) start hash numbers) where
        opened : Lists (Join (shape (split_of n)) (shape (n - split_of n))) start hash numbers
        opened = subst (λ t. Lists t start hash numbers) (shape-join n two) lists

        both_sizes : size_of (shape (split_of n)) + size_of (shape (n - split_of n)) ≡ n
        both_sizes =
            (λ i. size_of-shape (split_of n) i + size_of-shape (n - split_of n) i) ∙
            (let below = split_of-below n two in omega arith)

        pub pair_lists : ((l r : List ℕ) → IsHeldAt digest held hash (1 ∷ l ++ r) → ⊥) →
            ListsNode level start n numbers
        pair_lists none = at opened
          where
            at : Lists (Join (shape (split_of n)) (shape (n - split_of n))) start hash numbers →
                ListsNode level start n numbers
            at (inl h) = subst (λ m. ListsNode level start m numbers) both_sizes h.1
            at (inr (x, y, xs, ys, pair, ls, rs, is)) = absurd (none x y pair.is)

        pub record ArePartLists (k : ℕ) (l r : List ℕ) : Type 0 where
          pub left : List ℕ
          pub right : List ℕ
          pub left_lists : Lists (shape k) start l left
          pub right_lists : Lists (shape (n - k)) (start + k) r right
          pub is : numbers ≡ left ++ right

        pub part_lists : NoClash digest held → (k : ℕ) (l r : List ℕ) → k ≡ split_of n → length l ≡ 32 →
            length r ≡ 32 → IsHeldAt digest held hash (1 ∷ l ++ r) → ArePartLists k l r
        part_lists clean k l r k_is len_l len_r h = subst (λ m. ArePartLists m l r) (sym k_is) (at opened)
          where
            here : IsPairHeld digest held hash l r
            here = record { left_len = len_l; right_len = len_r; is = h }

            at : Lists (Join (shape (split_of n)) (shape (n - split_of n))) start hash numbers →
                ArePartLists (split_of n) l r
            at (inl g) = absurd (g.0 l r here)
            at (inr (x, y, xs, ys, pair, ls, rs, is)) =
                let same = pair_once clean hash x y l r pair here in
                record {
                  left = xs;
                  right = ys;
                  left_lists = subst (λ h. Lists (shape (split_of n)) start h xs) same.0 ls;
                  right_lists =
                      subst (λ h. Lists (shape (n - split_of n)) (start + split_of n) h ys) same.1
                      (subst (λ m. Lists (shape (n - split_of n)) (start + m) y ys) (size_of-shape (split_of n)) rs);
                  is = is;
                }

    -- ---- clear trees

    pub clear_built : ((s : List ℕ) → length (digest s) ≡ 32) → NoClash digest held → (size : ℕ) (root : List ℕ) →
        IsBuilt digest held size root → IsClear digest held level size root
    clear_built len clean size root b = λ start numbers lists.
        none_lost (shape size) start root numbers lists (built_not_fails digest held len clean size root b start)

    pub clear_few : (size : ℕ) (root : List ℕ) → 1 ≤ level → size ≤ 256 ^ level → IsClear digest held level size root
    clear_few size root some few = λ start numbers lists.
        few_lost (shape size) start root numbers some (omega (arith, few, size_of-shape size)) lists

    pub clear_leaf : (size : ℕ) (root entry : List ℕ) → size ≡ 1 → IsHeldAt digest held root (0 ∷ entry) →
        IsClear digest held level size root
    clear_leaf size root entry one h =
        subst (λ n. IsClear digest held level n root) (sym one)
        (λ start numbers lists. leaf_clear start root numbers lists entry h)

    pub clear_node : (size : ℕ) (root : List ℕ) → 2 ≤ size → ((l r : List ℕ) → IsHeldAt digest held root (1 ∷ l ++ r) → ⊥) →
        (IsOfLevel level size → ⊥) → IsClear digest held level size root
    clear_node size root two none other = λ start numbers lists.
        elim (pair_lists start root numbers size two lists none) [
          | inl n ↦ absurd (other n.0)
          | inr n ↦ n.1
        ]

    pub clear_parts : NoClash digest held → (size k : ℕ) (root l r : List ℕ) → 2 ≤ size → k ≡ split_of size →
        length l ≡ 32 → length r ≡ 32 → IsHeldAt digest held root (1 ∷ l ++ r) → IsClear digest held level k l →
        IsClear digest held level (size - k) r → IsClear digest held level size root
    clear_parts clean size k root l r two k_is len_l len_r h a b = λ start numbers lists.
        let p = part_lists start root numbers size two lists clean k l r k_is len_l len_r h in
        let left = a start p.left p.left_lists in
        let right = b (start + k) p.right p.right_lists in
        p.is ∙ (λ i. left i ++ right i)

    -- the notes of a step

    pub noted_clear : (v w : Points) (size : ℕ) (root : List ℕ) → AreClear digest held level v →
        IsClear digest held level size root → ((q : Point) → HasMark w q → (q ≡ point_at size root) ⊎ HasMark v q) →
        AreClear digest held level w
    noted_clear v w size root known is only = record {
      clear = λ n hash h. elim (only (point_at n hash) h) [
        | inl same ↦ subst (λ (q : Point). IsClear digest held level q.size q.root) (sym same) is
        | inr m ↦ known.clear n hash m
      ];
    }

    pub empty_clear : (points : Points) → points ≡ set.empty → AreClear digest held level points
    empty_clear points is =
        subst (AreClear digest held level) (sym is)
        (record { clear = λ size root h. absurd (no_mark (record { size = size; root = root }) h) })
