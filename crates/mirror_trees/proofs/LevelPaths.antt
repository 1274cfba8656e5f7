-- The paths of all levels are the missing ones, in order.
use Rattle.std.proofs.Common.{zero, suc, ◌≡◌, ℕ, ◌+◌, ◌-◌, ◌*◌, ◌/◌, ◌^◌, ◌<◌, ◌≤◌, min, List, [], ◌∷◌, ◌++◌, map, sym, refl}
use Rattle.std.proofs.Common.{ap, ◌∙◌, subst, arith, inl, inr, true, false}
use Rattle.std.specs.Prelude.{nat_lt, ◌↔◌}
use Rattle.std.specs.List.{Contains, AllByRecursion}
use Rattle.std.specs.List.Sorted.{IsStrictlySortedBy}
use Rattle.std.specs.Cmp.{nat_cmp_is}
use Rattle.std.specs.Ordering.{nat_cmp, ordering_then}
use Rattle.std.specs.declared.cmp.Ordering.{Ordering}
use Rattle.std.specs.declared.cmp.Ordering.TheVariants.{Less, Equal}
use Rattle.std.proofs.lemmas.Bool.{cases_lt, cases_Bool}
use Rattle.std.proofs.lemmas.List.Elements.{All-contains, Contains-append_left, Contains-append_right}
use Rattle.std.proofs.lemmas.List.Elements.{Contains-append_cases, All-from_recursion}
use Rattle.tlog_shape.proofs.Levels.{level_mono}
use Rattle.tlog_hash.specs.Shape.{shape}
use Rattle.tlog_hash.proofs.Shapes.{size_of-shape}
use Rattle.tlog_hash.proofs.Trees.{tree_of-none}
use Rattle.node_store.specs.Strings.{Strings, NoClash}
use Rattle.tlog_tiles.specs.declared.paths.Path.{Path}
use Rattle.tlog_tiles.specs.declared.paths.Path.TheVariants.{Checkpoint, Tile, Entries}
use Rattle.mirror_model.specs.Front.{path_cmp, IsPathOf}
use Rattle.mirror_model.specs.Walk.{WalkFails, IsMissing}
use Rattle.mirror_trees.specs.Levels.{IsOfLevel, ListsLost, ListsLevels, fresh_from, path_at}
use Rattle.mirror_trees.proofs.LevelSteps.{full_shape, some_lost, number_lost, lost_number, fails_within, nothing_in}
use Rattle.mirror_trees.proofs.LevelLists.{Rises, at_cond, fresh_in, in_fresh, lost_rises, nothing_of_none}

-- ---- lists

module _ {X Y : Type 0} (f : X → Y) where
  record IsMapped (xs : List X) (y : Y) : Type 0 where
    of : X
    listed : Contains xs of
    is : f of ≡ y

  from_mapped : (xs : List X) (y : Y) → Contains (map f xs) y → IsMapped xs y
  from_mapped [] y c = absurd (nothing_in y c)
  from_mapped (x ∷ xs) y (zero, lt, is) = record { of = x; listed = (zero, omega arith, refl); is = is }
  from_mapped (x ∷ xs) y (suc k, lt, is) =
      let m = from_mapped xs y (k, omega (arith, lt), is) in
      record { of = m.of; listed = (suc m.listed.0, omega (arith, m.listed.1), m.listed.2); is = m.is }

  mapped : (xs : List X) (x : X) → Contains xs x → Contains (map f xs) (f x)
  mapped [] x c = absurd (nothing_in x c)
  mapped (y ∷ xs) x (zero, lt, is) = (zero, omega arith, ap f is)
  mapped (y ∷ xs) x (suc k, lt, is) =
      let m = mapped xs x (k, omega (arith, lt), is) in (suc m.0, omega (arith, m.1), m.2)

module _ {X : Type 0} where
  all_in : (P : X → Type 0) (xs : List X) → ((x : X) → Contains xs x → P x) → AllByRecursion P xs
  all_in P [] each = tt
  all_in P (x ∷ xs) each = (
    each x (zero, omega arith, refl),
    all_in P xs (λ y c. each y (suc c.0, omega (arith, c.1), c.2)),
  )

  module _ (cmp : X → X → Ordering) where
    sorted_append : (xs ys : List X) → IsStrictlySortedBy cmp xs → IsStrictlySortedBy cmp ys →
        ((x y : X) → Contains xs x → Contains ys y → cmp x y ≡ Less) → IsStrictlySortedBy cmp (xs ++ ys)
    unfolding IsStrictlySortedBy
    sorted_append [] ys p q all = q
    sorted_append (x ∷ xs) ys p q all = (
      all_in (λ y. cmp x y ≡ Less) (xs ++ ys) (λ y c. elim (Contains-append_cases xs ys y c) [
        | inl a ↦ All-contains (λ z. cmp x z ≡ Less) xs y (All-from_recursion (λ z. cmp x z ≡ Less) xs p.0) a
        | inr b ↦ all x y (zero, omega arith, refl) b
      ]),
      sorted_append xs ys p.1 q (λ u v cu cv. all u v (suc cu.0, omega (arith, cu.1), cu.2) cv),
    )

-- ---- paths

cmp_less : (a b : ℕ) → a < b → nat_cmp a b ≡ Less
cmp_less a b lt = sym (nat_cmp_is a b Less lt)

cmp_same : (a : ℕ) → nat_cmp a a ≡ Equal
cmp_same a = sym (nat_cmp_is a a Equal refl)

module _ (size : ℕ) where
  lower_first : (level low a b : ℕ) → low < level → path_cmp (path_at size level a) (path_at size low b) ≡ Less
  lower_first zero low a b lt = absurd (omega (arith, lt))
  lower_first (suc level) zero a b lt = refl
  lower_first (suc level) (suc low) a b lt =
      ap (λ o. ordering_then o (ordering_then (nat_cmp a b) (nat_cmp 256 256))) (cmp_less (suc low) (suc level) lt)

  next_first : (level a b : ℕ) → a < b → path_cmp (path_at size level a) (path_at size level b) ≡ Less
  next_first zero a b lt =
      ap (λ o. ordering_then o (nat_cmp (min 256 (size - 256 * a)) (min 256 (size - 256 * b)))) (cmp_less a b lt)
  next_first (suc level) a b lt =
      ap (λ o. ordering_then o (ordering_then (nat_cmp a b) (nat_cmp 256 256))) (cmp_same (suc level))
      ∙ ap (λ o. ordering_then o (nat_cmp 256 256)) (cmp_less a b lt)

  fresh_sorted : (level bound : ℕ) (xs : List ℕ) → IsStrictlySortedBy path_cmp (map (path_at size level) (fresh_from bound xs))
  unfolding IsStrictlySortedBy
  fresh_sorted level bound [] = tt
  fresh_sorted level bound (x ∷ xs) =
      elim (cases_Bool (nat_lt x bound)) [
        | inl is_low ↦
            subst (λ ns. IsStrictlySortedBy path_cmp (map (path_at size level) ns))
            (sym (at_cond (fresh_from bound xs) (x ∷ fresh_from (suc x) xs) (nat_lt x bound) true is_low))
            (fresh_sorted level bound xs)
        | inr not_low ↦
            subst (λ ns. IsStrictlySortedBy path_cmp (map (path_at size level) ns))
            (sym (at_cond (fresh_from bound xs) (x ∷ fresh_from (suc x) xs) (nat_lt x bound) false not_low)) (
              all_in (λ p. path_cmp (path_at size level x) p ≡ Less) (map (path_at size level) (fresh_from (suc x) xs))
                  (λ p c. let m = from_mapped (path_at size level) (fresh_from (suc x) xs) p c in
                  let over = (in_fresh (suc x) xs m.of m.listed).from in
                  subst (λ q. path_cmp (path_at size level x) q ≡ Less) m.is
                  (next_first level x m.of (omega (arith, over)))),
              fresh_sorted level (suc x) xs,
            )
      ]

  -- the path of a node of a level
  path_of_level : (level at many : ℕ) → IsOfLevel level many →
      IsPathOf size at many (path_at size level (at / 256 ^ (level + 1)))
  path_of_level zero at many of =
      let upto = of.upto in record { few = omega (arith, upto); index_is = refl; width_is = refl }
  path_of_level (suc level) at many of = elim of.above [
    | inl is ↦ absurd (omega (arith, is))
    | inr above ↦
        let least = level_mono 1 (suc level) (omega arith) in
        record {
          many = omega (arith, least, above);
          tile = record { above = above; upto = of.upto; index_is = refl };
          width_is = refl;
        }
  ]

  record HasLevel (at many : ℕ) (path : Path) : Type 0 where
    level : ℕ
    is_of_level : IsOfLevel level many
    upto : level ≤ 7
    path_is : path ≡ path_at size level (at / 256 ^ (level + 1))

  level_of_path : (at many : ℕ) (path : Path) → many ≤ 256 ^ 8 → IsPathOf size at many path → HasLevel at many path
  level_of_path at many Checkpoint small p = absurd p
  level_of_path at many (Tile zero index width) small p =
      let more = p.many in let upto = p.tile.upto in absurd (omega (arith, more, upto))
  level_of_path at many (Tile (suc level) index width) small p = record {
    level = suc level;
    is_of_level = record { above = inr p.tile.above; upto = p.tile.upto };
    upto = elim (cases_lt 7 (suc level)) [
      | inl over ↦ absurd
          (let above = p.tile.above in let least = level_mono 8 (suc level) (omega (arith, over)) in omega (arith, least, above, small))
      | inr under ↦ under
    ];
    path_is = λ j. Tile (suc level) (p.tile.index_is j) (p.width_is j);
  }
  level_of_path at many (Entries index width) small p = record {
    level = zero;
    is_of_level = let few = p.few in record { above = inl refl; upto = omega (arith, few) };
    upto = omega arith;
    path_is =
        let is : width ≡ min 256 (size - 256 * (at / 256)) = p.width_is ∙ ap (λ i. min 256 (size - 256 * i)) p.index_is in
        λ j. Entries (p.index_is j) (is j);
  }

-- ---- all levels

none_fails : (digest : List ℕ → List ℕ) (held : Strings) (root : List ℕ) (at many : ℕ) →
    WalkFails digest held (shape 0) 0 root at many → ⊥
unfolding shape
none_fails digest held root at many f = subst (λ t. WalkFails digest held t 0 root at many) tree_of-none f

module _ (digest : List ℕ → List ℕ) (held : Strings) (size : ℕ) (root : List ℕ) where
  -- the path is that of a node where the walk fails, with that level or a higher one
  record IsLostFrom (low : ℕ) (path : Path) : Type 0 where
    at : ℕ
    many : ℕ
    level : ℕ
    fails : WalkFails digest held (shape size) 0 root at many
    is_of_level : IsOfLevel level many
    from : low ≤ level
    upto : level ≤ 7
    path_is : path ≡ path_at size level (at / 256 ^ (level + 1))

  abbrev IsLevels : ℕ → List Path → Type 0
  IsLevels levels paths = ListsLevels digest held size root levels paths

  pub record HasLevels (levels : ℕ) : Type 0 where
    pub paths : List Path
    pub lists : IsLevels levels paths

  -- there is such a list
  pub some_levels : (levels : ℕ) → HasLevels levels
  some_levels zero = record { paths = []; lists = refl }
  some_levels (suc levels) =
      let above = some_levels levels in
      let own = some_lost (7 - levels) digest held (shape size) 0 root in
      record {
        paths = above.paths ++ map (path_at size (7 - levels)) (fresh_from 0 own.numbers);
        lists = (above.paths, own.numbers, above.lists, own.lists, refl);
      }

  rises : (level : ℕ) (numbers : List ℕ) → ListsLost digest held level (shape size) 0 root numbers → Rises numbers
  rises level numbers lists = elim (cases_lt 0 size) [
    | inl some ↦ lost_rises level digest held (shape size) (full_shape size (omega (arith, some))) 0 root numbers lists
    | inr none ↦
        let zero_is : size ≡ 0 = omega (arith, none) in
        subst Rises (sym (nothing_of_none level digest held root numbers
        (subst (λ n. ListsLost digest held level (shape n) 0 root numbers) zero_is lists))) tt
  ]

  module _ (clean : NoClash digest held) where
    own_lost : (level : ℕ) (numbers : List ℕ) → level ≤ 7 → ListsLost digest held level (shape size) 0 root numbers →
        (path : Path) → Contains (map (path_at size level) (fresh_from 0 numbers)) path → IsLostFrom level path
    own_lost level numbers upto lists path c =
        let m = from_mapped (path_at size level) (fresh_from 0 numbers) path c in
        let f = in_fresh 0 numbers m.of m.listed in
        let n = number_lost level digest held (shape size) 0 root numbers lists m.of f.listed in
        record {
          at = n.at;
          many = n.many;
          level = level;
          fails = n.fails;
          is_of_level = n.is_of_level;
          from = omega arith;
          upto = upto;
          path_is = sym m.is ∙ ap (path_at size level) n.number_is;
        }

    lost_own : (level : ℕ) (numbers : List ℕ) → ListsLost digest held level (shape size) 0 root numbers → (path : Path) →
        (m : IsLostFrom level path) → m.level ≡ level → Contains (map (path_at size level) (fresh_from 0 numbers)) path
    lost_own level numbers lists path m same =
        let of : IsOfLevel level m.many = subst (λ l. IsOfLevel l m.many) same m.is_of_level in
        let is : path ≡ path_at size level (m.at / 256 ^ (level + 1)) =
        subst (λ l. path ≡ path_at size l (m.at / 256 ^ (l + 1))) same m.path_is in
        let listed = lost_number level digest held clean (shape size) 0 root numbers lists m.at m.many m.fails of in
        subst (Contains (map (path_at size level) (fresh_from 0 numbers))) (sym is)
        (mapped (path_at size level) (fresh_from 0 numbers) (m.at / 256 ^ (level + 1))
        (fresh_in 0 numbers (rises level numbers lists) (m.at / 256 ^ (level + 1)) listed (omega arith)))

    lower : (low down : ℕ) (path : Path) → down ≤ low → IsLostFrom low path → IsLostFrom down path
    lower low down path le m = record {
      at = m.at;
      many = m.many;
      level = m.level;
      fails = m.fails;
      is_of_level = m.is_of_level;
      from = let from = m.from in omega (arith, le, from);
      upto = m.upto;
      path_is = m.path_is;
    }

    levels_lost : (levels : ℕ) (paths : List Path) → levels ≤ 8 → IsLevels levels paths → (path : Path) →
        Contains paths path → IsLostFrom (8 - levels) path
    levels_lost zero paths le is path c = absurd (nothing_in path (subst (λ ps. Contains ps path) is c))
    levels_lost (suc levels) paths le (above, numbers, higher, lists, is) path c =
        elim (Contains-append_cases above (map (path_at size (7 - levels)) (fresh_from 0 numbers)) path
        (subst (λ ps. Contains ps path) is c)) [
          | inl a ↦ lower (8 - levels) (8 - suc levels) path (omega arith)
              (levels_lost levels above (omega (arith, le)) higher path a)
          | inr b ↦ lower (7 - levels) (8 - suc levels) path (omega arith)
              (own_lost (7 - levels) numbers (omega arith) lists path b)
        ]

    lost_levels : (levels : ℕ) (paths : List Path) → levels ≤ 8 → IsLevels levels paths → (path : Path) →
        IsLostFrom (8 - levels) path → Contains paths path
    lost_levels zero paths le is path m = let from = m.from in let upto = m.upto in absurd (omega (arith, from, upto))
    lost_levels (suc levels) paths le (above, numbers, higher, lists, is) path m =
        subst (λ ps. Contains ps path) (sym is)
        (elim (cases_lt (7 - levels) m.level) [
          | inl over ↦ Contains-append_left above (map (path_at size (7 - levels)) (fresh_from 0 numbers)) path
              (lost_levels levels above (omega (arith, le)) higher path (record {
                at = m.at;
                many = m.many;
                level = m.level;
                fails = m.fails;
                is_of_level = m.is_of_level;
                from = omega (arith, over, le);
                upto = m.upto;
                path_is = m.path_is;
              }))
          | inr under ↦
              let from = m.from in
              let same : m.level ≡ 7 - levels = omega (arith, under, from, le) in
              Contains-append_right above (map (path_at size (7 - levels)) (fresh_from 0 numbers)) path
              (lost_own (7 - levels) numbers lists path (record {
                at = m.at;
                many = m.many;
                level = m.level;
                fails = m.fails;
                is_of_level = m.is_of_level;
                from = omega (arith, same);
                upto = m.upto;
                path_is = m.path_is;
              }) same)
        ])

    levels_sorted : (levels : ℕ) (paths : List Path) → levels ≤ 8 → IsLevels levels paths →
        IsStrictlySortedBy path_cmp paths
    unfolding IsStrictlySortedBy
    levels_sorted zero paths le is = subst (IsStrictlySortedBy path_cmp) (sym is) tt
    levels_sorted (suc levels) paths le (above, numbers, higher, lists, is) =
        subst (IsStrictlySortedBy path_cmp) (sym is)
        (sorted_append path_cmp above (map (path_at size (7 - levels)) (fresh_from 0 numbers))
        (levels_sorted levels above (omega (arith, le)) higher) (fresh_sorted size (7 - levels) 0 numbers)
        (λ p q cp cq. let m = levels_lost levels above (omega (arith, le)) higher p cp in
        let n = from_mapped (path_at size (7 - levels)) (fresh_from 0 numbers) q cq in
        let from = m.from in
        subst (λ r. path_cmp r q ≡ Less) (sym m.path_is)
        (subst (λ r. path_cmp (path_at size m.level (m.at / 256 ^ (m.level + 1))) r ≡ Less) n.is
        (lower_first size m.level (7 - levels) (m.at / 256 ^ (m.level + 1)) n.of (omega (arith, from, le))))))

    pub record AreAllMissing (paths : List Path) : Type 0 where
      pub sorted : IsStrictlySortedBy path_cmp paths
      pub exact : (path : Path) → Contains paths path ↔ IsMissing digest held size root path

    -- the missing paths of all eight levels together are the missing paths
    pub all_missing : size ≤ 256 ^ 8 → (paths : List Path) → IsLevels 8 paths → AreAllMissing paths
    all_missing small paths lists = record {
      sorted = levels_sorted 8 paths (omega arith) lists;
      exact = λ path. (to path, from path);
    }
      where
        to : (path : Path) → Contains paths path → IsMissing digest held size root path
        to path c =
            let m = levels_lost 8 paths (omega arith) lists path c in
            record {
              at = m.at;
              many = m.many;
              fails = m.fails;
              path_is =
                  subst (IsPathOf size m.at m.many) (sym m.path_is) (path_of_level size m.level m.at m.many m.is_of_level);
            }

        within : (at many : ℕ) → WalkFails digest held (shape size) 0 root at many → many ≤ 256 ^ 8
        within at many f = elim (cases_lt 0 size) [
          | inl some ↦
              let w = fails_within 0 digest held (shape size) (full_shape size (omega (arith, some))) 0 root at many f in
              let top = w.to in
              omega (arith, top, small, size_of-shape size)
          | inr none ↦
              let zero_is : size ≡ 0 = omega (arith, none) in
              absurd (none_fails digest held root at many
              (subst (λ n. WalkFails digest held (shape n) 0 root at many) zero_is f))
        ]

        from : (path : Path) → IsMissing digest held size root path → Contains paths path
        from path m =
            let h = level_of_path size m.at m.many path (within m.at m.many m.fails) m.path_is in
            lost_levels 8 paths (omega arith) lists path (record {
              at = m.at;
              many = m.many;
              level = h.level;
              fails = m.fails;
              is_of_level = h.is_of_level;
              from = omega arith;
              upto = h.upto;
              path_is = h.path_is;
            })
