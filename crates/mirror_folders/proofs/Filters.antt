-- The items of a filtered list.
use Rattle.std.proofs.Common.{◌≡◌, List, [], ◌∷◌, Bool, true, false, cond, refl, sym, ap, subst, ◌∙◌, inl, inr, arith}
use Rattle.std.specs.List.{All, Contains, filter}
use Rattle.std.proofs.lemmas.Bool.{false≢true}
use Rattle.std.proofs.lemmas.List.Elements.{All-head, All-tail, Contains-append_cases, Contains-append_left}
use Rattle.std.proofs.lemmas.List.Elements.{Contains-append_right, Contains-push, Contains-push_cases}

contains_none : {X : Type 0} (x : X) → Contains [] x → ⊥
contains_none x h = let none = h.1 in omega arith

contains_one : {X : Type 0} (y x : X) → Contains (y ∷ []) x → y ≡ x
contains_one y x h = elim (Contains-push_cases [] y x h) [ inl none ↦ absurd (contains_none x none) | inr same ↦ same ]

module _ {X : Type 0} (p : X → Bool) where
  later : (b : Bool) (y : X) (us : List X) (x : X) → Contains us x → Contains (cond b (y ∷ us) us) x
  later true y us x h = Contains-append_right (y ∷ []) us x h
  later false y us x h = h

  first : (b : Bool) (y : X) (us : List X) → b ≡ true → Contains (cond b (y ∷ us) us) y
  first true y us e = Contains-append_left (y ∷ []) us y (Contains-push [] y)
  first false y us e = absurd (false≢true e)

  pub filter_has : (xs : List X) (x : X) → Contains xs x → p x ≡ true → Contains (filter p xs) x
  filter_has [] x h e = absurd (contains_none x h)
  filter_has (y ∷ ys) x h e = elim (Contains-append_cases (y ∷ []) ys x h) [
    | inl here ↦ (let same : y ≡ x = contains_one y x here in
        subst (λ (z : X). Contains (cond (p y) (y ∷ filter p ys) (filter p ys)) z) same
        (first (p y) y (filter p ys) (ap p same ∙ e)))
    | inr there ↦ later (p y) y (filter p ys) x (filter_has ys x there e)
  ]

  is_by : (y : X) (ys : List X) (x : X) → (Contains (filter p ys) x → Contains ys x × (p x ≡ true)) → (b : Bool) →
      p y ≡ b → Contains (cond b (y ∷ filter p ys) (filter p ys)) x → Contains (y ∷ ys) x × (p x ≡ true)
  is_by y ys x rest true e h = elim (Contains-append_cases (y ∷ []) (filter p ys) x h) [
    | inl here ↦ (Contains-append_left (y ∷ []) ys x here, ap p (sym (contains_one y x here)) ∙ e)
    | inr there ↦ (Contains-append_right (y ∷ []) ys x (rest there).0, (rest there).1)
  ]
  is_by y ys x rest false e h = (Contains-append_right (y ∷ []) ys x (rest h).0, (rest h).1)

  pub filter_is : (xs : List X) (x : X) → Contains (filter p xs) x → Contains xs x × (p x ≡ true)
  filter_is [] x h = absurd (contains_none x h)
  filter_is (y ∷ ys) x h = is_by y ys x (filter_is ys x) (p y) refl h

  pub filter_all : (xs : List X) → All (λ x. p x ≡ true) xs → filter p xs ≡ xs
  filter_all [] h = refl
  filter_all (y ∷ ys) h =
      ap (λ (b : Bool). cond b (y ∷ filter p ys) (filter p ys)) (All-head (λ x. p x ≡ true) y ys h)
      ∙ ap (λ (l : List X). y ∷ l) (filter_all ys (All-tail (λ x. p x ≡ true) y ys h))
