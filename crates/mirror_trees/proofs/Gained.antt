-- Strings that a store gains, step by step.
use Rattle.std.proofs.Common.{◌≡◌, ℕ, List, sym, subst, ◌⊎◌, inl, inr, Result, Ok, Err}
use Rattle.std.specs.Prelude.{OnOk, OnErr}
use Rattle.std.specs.FinSet as set
use Rattle.std.specs.List.{Contains}
use Rattle.node_store.specs.Strings.{Strings, Has}
use Rattle.node_store.proofs.Sets.{Has-insert, Has-insert_other, Has-union_left, Has-union_right, Has-union_cases}
use Rattle.mirror_model.proofs.StringSets.{listed_from_has, has_from_listed}
use Rattle.mirror_trees.specs.Building.{HasGained}
use Rattle.mirror_trees.proofs.BuiltTrees.{IsBoth}

pub gained_none : (v : Strings) (xs : List (List ℕ)) → HasGained v xs v
gained_none v xs = record { at_least = λ s h. h; at_most = λ s h. inl h }

-- a string of the list was added, or none
pub gained_one : {X E : Type 0} (r : Result X E) (v w : Strings) (x : List ℕ) (all : List (List ℕ)) → Contains all x →
    OnOk r (w ≡ set.insert v x) → OnErr r (w ≡ v) → HasGained v all w
gained_one (Ok a) v w x all c is same = subst (HasGained v all) (sym is) (record {
  at_least = λ s h. Has-insert_other v x s h;
  at_most = λ s h. elim (Has-insert v x s h) [ inl e ↦ inr (subst (Contains all) (sym e) c) | inr m ↦ inl m ];
})
gained_one (Err e) v w x all c is same = subst (HasGained v all) (sym same) (gained_none v all)

pub gained_more : (v w : Strings) (xs all : List (List ℕ)) → ((y : List ℕ) → Contains xs y → Contains all y) →
    HasGained v xs w → HasGained v all w
gained_more v w xs all upon g = record {
  at_least = g.at_least;
  at_most = λ s h. elim (g.at_most s h) [ inl m ↦ inl m | inr m ↦ inr (upon s m) ];
}

pub gained_then : (u v w : Strings) (all : List (List ℕ)) → HasGained u all v → HasGained v all w → HasGained u all w
gained_then u v w all f g = record {
  at_least = λ s h. g.at_least s (f.at_least s h);
  at_most = λ s h. elim (g.at_most s h) [ inl m ↦ f.at_most s m | inr m ↦ inr m ];
}

-- ---- both parts of a tree, and then the string that joins them

module _ (left right all : List (List ℕ)) (last : List ℕ) (both : IsBoth left right all last) where
  pub gained_left : (u v : Strings) → HasGained u left v → HasGained u all v
  gained_left u v g = gained_more u v left all (λ y h. (both y).1 (inl h)) g

  pub gained_right : (u v w : Strings) → HasGained u left v → HasGained v right w → HasGained u all w
  gained_right u v w f g =
      gained_then u v w all (gained_left u v f) (gained_more v w right all (λ y h. (both y).1 (inr (inl h))) g)

  pub gained_last : {X E : Type 0} (r : Result X E) (u v w z : Strings) (s : List ℕ) → s ≡ last → HasGained u left v →
      HasGained v right w → OnOk r (z ≡ set.insert w s) → OnErr r (z ≡ w) → HasGained u all z
  gained_last r u v w z s s_is f g done kept =
      gained_then u w z all (gained_right u v w f g)
      (gained_one r w z s all ((both s).1 (inr (inr s_is))) done kept)

-- ---- rows above each other

pub gained_above : (u v w : Strings) (all rest xs : List (List ℕ)) → ((s : List ℕ) → Has u s → Has v s) →
    set.union v (set.from_list rest) ≡ set.union u (set.from_list all) →
    ((y : List ℕ) → Contains xs y → Contains rest y) → HasGained v xs w → HasGained u all w
gained_above u v w all rest xs grows same upon g = record {
  at_least = λ s h. g.at_least s (grows s h);
  at_most = λ s h. through s (elim (g.at_most s h) [
    | inl m ↦ Has-union_left v (set.from_list rest) s m
    | inr m ↦ Has-union_right v (set.from_list rest) s (has_from_listed rest s (upon s m))
  ]);
}
  where
    through : (s : List ℕ) → Has (set.union v (set.from_list rest)) s → Has u s ⊎ Contains all s
    through s h = elim (Has-union_cases u (set.from_list all) s (subst (λ (z : Strings). Has z s) same h)) [
      | inl m ↦ inl m
      | inr m ↦ inr (listed_from_has all s m)
    ]
