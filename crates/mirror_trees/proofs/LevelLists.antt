-- The numbers of a level in order, and the paths of all levels.
use Rattle.std.proofs.Common.{zero, suc, ◌≡◌, ℕ, ◌+◌, ◌-◌, ◌*◌, ◌/◌, ◌^◌, ◌<◌, ◌≤◌, List, [], ◌∷◌, ◌++◌, sym, refl}
use Rattle.std.proofs.Common.{ap, ◌∙◌, subst, arith, inl, inr, Option, Some, None, Bool, true, false, cond}
use Rattle.std.specs.Prelude.{nat_lt, ⊤, IfSome}
use Rattle.std.specs.List.{Contains}
use Rattle.std.proofs.Math.Nat.{div-mul-le_self}
use Rattle.std.proofs.lemmas.Nat.{mul-le}
use Rattle.std.proofs.lemmas.Bool.{cases_lt, cases_Bool, ltb-true, ltb-false, lt-ltb}
use Rattle.std.proofs.lemmas.List.Elements.{Contains-append_cases}
use Rattle.tlog_shape.proofs.Levels.{level_positive, level_next}
use Rattle.tlog_hash.specs.Tree.{Tree, Empty, One, Join, size_of}
use Rattle.tlog_hash.specs.Shape.{shape}
use Rattle.tlog_hash.proofs.Shapes.{size_of-shape}
use Rattle.tlog_hash.proofs.Trees.{tree_of-none}
use Rattle.node_store.specs.Strings.{Strings}
use Rattle.mirror_trees.specs.Levels.{ListsNode, ListsLost, first_from, fresh_from}
use Rattle.mirror_trees.proofs.LevelSteps.{div_mono, IsFull, full_shape, some_lost, number_lost}
use Rattle.mirror_trees.proofs.LevelSteps.{fails_within, nothing_in}

-- ---- the first number, and the next ones

pub at_cond : {X : Type 0} (x y : X) (b c : Bool) → b ≡ c → cond b x y ≡ cond c x y
at_cond x y b c e = ap (λ t. cond t x y) e

-- the first number of two lists
pub first_some : (bound number : ℕ) (xs ys : List ℕ) → first_from bound xs ≡ Some number →
    first_from bound (xs ++ ys) ≡ Some number
first_some bound number [] ys e = absurd (cc e)
first_some bound number (x ∷ xs) ys e =
    elim (cases_Bool (nat_lt x bound)) [
      | inl is_low ↦
          at_cond (first_from bound (xs ++ ys)) (Some x) (nat_lt x bound) true is_low
          ∙ first_some bound number xs ys
          (sym (at_cond (first_from bound xs) (Some x) (nat_lt x bound) true is_low) ∙ e)
      | inr not_low ↦
          at_cond (first_from bound (xs ++ ys)) (Some x) (nat_lt x bound) false not_low
          ∙ (sym (at_cond (first_from bound xs) (Some x) (nat_lt x bound) false not_low) ∙ e)
    ]

pub first_none : (bound : ℕ) (xs ys : List ℕ) → first_from bound xs ≡ None →
    first_from bound (xs ++ ys) ≡ first_from bound ys
first_none bound [] ys e = refl
first_none bound (x ∷ xs) ys e =
    elim (cases_Bool (nat_lt x bound)) [
      | inl is_low ↦
          at_cond (first_from bound (xs ++ ys)) (Some x) (nat_lt x bound) true is_low
          ∙ first_none bound xs ys (sym (at_cond (first_from bound xs) (Some x) (nat_lt x bound) true is_low) ∙ e)
      | inr not_low ↦ absurd
          (let wrong : Some x ≡ None =
          sym (at_cond (first_from bound xs) (Some x) (nat_lt x bound) false not_low) ∙ e in cc wrong)
    ]

-- all numbers are below the bound
pub first_below : (bound : ℕ) (xs : List ℕ) → ((x : ℕ) → Contains xs x → x < bound) → first_from bound xs ≡ None
first_below bound [] below = refl
first_below bound (x ∷ xs) below =
    at_cond (first_from bound xs) (Some x) (nat_lt x bound) true
    (lt-ltb x bound (below x (zero, omega arith, refl)))
    ∙ first_below bound xs (λ y c. below y (suc c.0, omega (arith, c.1), c.2))

pub record IsFirst (bound : ℕ) (xs : List ℕ) (number : ℕ) : Type 0 where
  pub from : bound ≤ number
  pub listed : Contains xs number
  pub rest : fresh_from bound xs ≡ number ∷ fresh_from (suc number) xs

pub first_rests : (bound : ℕ) (xs : List ℕ) (number : ℕ) → first_from bound xs ≡ Some number → IsFirst bound xs number
first_rests bound [] number e = absurd (cc e)
first_rests bound (x ∷ xs) number e =
    elim (cases_Bool (nat_lt x bound)) [
      | inl is_low ↦
          let r = first_rests bound xs number
          (sym (at_cond (first_from bound xs) (Some x) (nat_lt x bound) true is_low) ∙ e) in
          let low : x < bound = ltb-true x bound is_low in
          let f = r.from in
          let under : nat_lt x (suc number) ≡ true = lt-ltb x (suc number) (omega (arith, low, f)) in
          record {
            from = r.from;
            listed = (suc r.listed.0, omega (arith, r.listed.1), r.listed.2);
            rest =
                at_cond (fresh_from bound xs) (x ∷ fresh_from (suc x) xs) (nat_lt x bound) true is_low
                ∙ (r.rest
                ∙ ap (λ ns. number ∷ ns)
                (sym (at_cond (fresh_from (suc number) xs) (x ∷ fresh_from (suc x) xs) (nat_lt x (suc number)) true under)));
          }
      | inr not_low ↦
          let same : x ≡ number =
          some_is x number (sym (at_cond (first_from bound xs) (Some x) (nat_lt x bound) false not_low) ∙ e) in
          let high : bound ≤ x = ltb-false x bound not_low in
          let under : nat_lt x (suc x) ≡ true = lt-ltb x (suc x) (omega arith) in
          subst (IsFirst bound (x ∷ xs)) same (record {
            from = high;
            listed = (zero, omega arith, refl);
            rest =
                at_cond (fresh_from bound xs) (x ∷ fresh_from (suc x) xs) (nat_lt x bound) false not_low
                ∙ ap (λ ns. x ∷ ns)
                (sym (at_cond (fresh_from (suc x) xs) (x ∷ fresh_from (suc x) xs) (nat_lt x (suc x)) true under));
          })
    ]
  where
    some_is : (a b : ℕ) → Some a ≡ Some b → a ≡ b
    some_is a b e = cc e

pub none_rests : (bound : ℕ) (xs : List ℕ) → first_from bound xs ≡ None → fresh_from bound xs ≡ []
none_rests bound [] e = refl
none_rests bound (x ∷ xs) e =
    elim (cases_Bool (nat_lt x bound)) [
      | inl is_low ↦
          at_cond (fresh_from bound xs) (x ∷ fresh_from (suc x) xs) (nat_lt x bound) true is_low
          ∙ none_rests bound xs (sym (at_cond (first_from bound xs) (Some x) (nat_lt x bound) true is_low) ∙ e)
      | inr not_low ↦ absurd
          (let wrong : Some x ≡ None =
          sym (at_cond (first_from bound xs) (Some x) (nat_lt x bound) false not_low) ∙ e in cc wrong)
    ]

-- ---- lists that rise

abbrev pub Rises : List ℕ → Type 0
Rises [] = ⊤
Rises (x ∷ xs) = ((y : ℕ) → Contains xs y → x ≤ y) × Rises xs

rises_append : (xs ys : List ℕ) → Rises xs → Rises ys → ((x y : ℕ) → Contains xs x → Contains ys y → x ≤ y) →
    Rises (xs ++ ys)
rises_append [] ys p q all = q
rises_append (x ∷ xs) ys p q all = (
  λ y c. elim (Contains-append_cases xs ys y c) [
    | inl a ↦ p.0 y a
    | inr b ↦ all x y (zero, omega arith, refl) b
  ],
  rises_append xs ys p.1 q (λ u v cu cv. all u v (suc cu.0, omega (arith, cu.1), cu.2) cv),
)

-- each number that is not below the bound is among the fresh ones, and no other is
pub fresh_in : (bound : ℕ) (xs : List ℕ) → Rises xs → (x : ℕ) → Contains xs x → bound ≤ x →
    Contains (fresh_from bound xs) x
fresh_in bound [] p x c le = absurd (nothing_in x c)
fresh_in bound (y ∷ ys) p x c le =
    elim (cases_Bool (nat_lt y bound)) [
      | inl is_low ↦
          let low : y < bound = ltb-true y bound is_low in
          subst (λ ns. Contains ns x)
          (sym (at_cond (fresh_from bound ys) (y ∷ fresh_from (suc y) ys) (nat_lt y bound) true is_low))
          (fresh_in bound ys p.1 x (behind c (λ e. omega (arith, e, low, le))) le)
      | inr not_low ↦
          subst (λ ns. Contains ns x)
          (sym (at_cond (fresh_from bound ys) (y ∷ fresh_from (suc y) ys) (nat_lt y bound) false not_low))
          (elim (cases_lt y x) [
            | inl over ↦
                let m = fresh_in (suc y) ys p.1 x (behind c (λ e. omega (arith, e, over))) (omega (arith, over)) in
                (suc m.0, omega (arith, m.1), m.2)
            | inr under ↦ (zero, omega arith, here c under)
          ])
    ]
  where
    behind : Contains (y ∷ ys) x → (y ≡ x → ⊥) → Contains ys x
    behind (zero, lt, is) not = absurd (not is)
    behind (suc k, lt, is) not = (k, omega (arith, lt), is)

    here : Contains (y ∷ ys) x → x ≤ y → y ≡ x
    here (zero, lt, is) under = is
    here (suc k, lt, is) under = let over = p.0 x (k, omega (arith, lt), is) in omega (arith, over, under)

pub record IsFresh (bound : ℕ) (xs : List ℕ) (x : ℕ) : Type 0 where
  pub from : bound ≤ x
  pub listed : Contains xs x

pub in_fresh : (bound : ℕ) (xs : List ℕ) (x : ℕ) → Contains (fresh_from bound xs) x → IsFresh bound xs x
in_fresh bound [] x c = absurd (nothing_in x c)
in_fresh bound (y ∷ ys) x c =
    elim (cases_Bool (nat_lt y bound)) [
      | inl is_low ↦
          let m = in_fresh bound ys x (subst (λ ns. Contains ns x)
          (at_cond (fresh_from bound ys) (y ∷ fresh_from (suc y) ys) (nat_lt y bound) true is_low) c) in
          record { from = m.from; listed = (suc m.listed.0, omega (arith, m.listed.1), m.listed.2) }
      | inr not_low ↦
          at (ltb-false y bound not_low) (λ m. in_fresh (suc y) ys x m) (subst (λ ns. Contains ns x)
          (at_cond (fresh_from bound ys) (y ∷ fresh_from (suc y) ys) (nat_lt y bound) false not_low) c)
    ]
  where
    at : bound ≤ y → (Contains (fresh_from (suc y) ys) x → IsFresh (suc y) ys x) →
        Contains (y ∷ fresh_from (suc y) ys) x → IsFresh bound (y ∷ ys) x
    at high later (zero, lt, is) =
        record { from = subst (λ z. bound ≤ z) is high; listed = (zero, omega arith, is) }
    at high later (suc k, lt, is) =
        let m = later (k, omega (arith, lt), is) in
        let f = m.from in
        record { from = omega (arith, f, high); listed = (suc m.listed.0, omega (arith, m.listed.1), m.listed.2) }

-- ---- the numbers of a level

module _ (level : ℕ) (digest : List ℕ → List ℕ) (held : Strings) where
  abbrev unit : ℕ
  unit = 256 ^ (level + 1)

  abbrev Lists : Tree ℕ → ℕ → List ℕ → List ℕ → Type 0
  Lists t start hash numbers = ListsLost digest held level t start hash numbers

  pub nothing_of_none : (hash numbers : List ℕ) → Lists (shape 0) 0 hash numbers → numbers ≡ []
  unfolding shape
  nothing_of_none hash numbers lists = subst (λ t. Lists t 0 hash numbers) tree_of-none lists

  -- the numbers are those of a tree that begins at start
  between : (t : Tree ℕ) → IsFull t → (start : ℕ) (hash numbers : List ℕ) → Lists t start hash numbers →
      (number : ℕ) → Contains numbers number →
      (start / unit ≤ number) × (number ≤ (start + (size_of t - 1)) / unit)
  between t full start hash numbers lists number c =
      let m = number_lost level digest held t start hash numbers lists number c in
      let w = fails_within level digest held t full start hash m.at m.many m.fails in
      let some = w.some in
      let low = div_mono start m.at unit (level_positive (level + 1)) w.from in
      let high =
      div_mono m.at (start + (size_of t - 1)) unit (level_positive (level + 1)) (let to = w.to in omega (arith, to, some)) in (
        subst (λ n. start / unit ≤ n) (sym m.number_is) low,
        subst (λ n. n ≤ (start + (size_of t - 1)) / unit) (sym m.number_is) high,
      )

  pub before_all : (bound start size : ℕ) (hash numbers : List ℕ) → 1 ≤ size → (start + (size - 1)) / unit < bound →
      Lists (shape size) start hash numbers → first_from bound numbers ≡ None
  before_all bound start size hash numbers some low lists =
      first_below bound numbers
      (λ number c. let b = (between (shape size) (full_shape size some) start hash numbers lists number c).1 in
      let b' : number ≤ (start + (size - 1)) / unit =
      subst (λ n. number ≤ (start + (n - 1)) / unit) (size_of-shape size) b in omega (arith, b', low))

  node_rises : (start many : ℕ) (numbers : List ℕ) → ListsNode level start many numbers → Rises numbers
  node_rises start many numbers (inl n) = subst Rises (sym n.1) (λ y c. absurd (nothing_in y c), tt)
  node_rises start many numbers (inr n) = subst Rises (sym n.1) tt

  pub lost_rises : (t : Tree ℕ) → IsFull t → (start : ℕ) (hash numbers : List ℕ) → Lists t start hash numbers →
      Rises numbers
  lost_rises Empty full start hash numbers is = subst Rises (sym is) tt
  lost_rises (One x) full start hash numbers (inl h) = subst Rises (sym h.2) tt
  lost_rises (One x) full start hash numbers (inr h) = node_rises start 1 numbers h.1
  lost_rises (Join l r) full start hash numbers (inl h) = node_rises start (size_of l + size_of r) numbers h.1
  lost_rises (Join l r) full start hash numbers (inr (x, y, xs, ys, pair, ls, rs, is)) =
      subst Rises (sym is)
      (rises_append xs ys (lost_rises l full.0 start x xs ls) (lost_rises r full.1 (start + size_of l) y ys rs)
      (λ a b ca cb. let low = (between l full.0 start x xs ls a ca).1 in
      let high = (between r full.1 (start + size_of l) y ys rs b cb).0 in
      let mid = div_mono (start + (size_of l - 1)) (start + size_of l) unit (level_positive (level + 1)) (omega arith) in
      omega (arith, low, high, mid)))

  -- the number of a file of a tree of that size
  pub first_fits : (bound size : ℕ) (hash : List ℕ) (r : Option ℕ) → (size ≡ 0 → ⊥) →
      ((numbers : List ℕ) → Lists (shape size) 0 hash numbers → r ≡ first_from bound numbers) →
      IfSome r (λ number. (bound ≤ number) × (256 * number < size))
  first_fits bound size hash None some first = tt
  first_fits bound size hash (Some number) some first =
      let all = some_lost level digest held (shape size) 0 hash in
      let f = first_rests bound all.numbers number (sym (first all.numbers all.lists)) in
      let m = number_lost level digest held (shape size) 0 hash all.numbers all.lists number f.listed in
      let w =
      fails_within level digest held (shape size) (full_shape size (omega (arith, some))) 0 hash m.at m.many m.fails in
      let to = w.to in
      let least = w.some in
      let back : m.at / unit * unit ≤ m.at = div-mul-le_self m.at unit in
      let wide : 256 ≤ unit = wide_unit in
      let times : number * unit ≤ m.at = subst (λ n. n * unit ≤ m.at) (sym m.number_is) back in
      let more : number * 256 ≤ number * unit = mul-le number 256 number unit (omega arith) wide in
      (f.from, omega (arith, times, more, to, least, size_of-shape size))
    where
      wide_unit : 256 ≤ unit
      wide_unit = let e = level_next level in let p = level_positive level in omega (arith, e, p)
