-- Sets of strings, by their strings.
use Rattle.std.proofs.Common.{◌≡◌, ℕ, List, Bool, true, false, sym, refl, ap, ◌∙◌, subst, ◌⊎◌, inl, inr}
use Rattle.std.specs.Prelude.{◌||◌, ◌≢◌}
use Rattle.std.specs.Ordering.{nat_cmp, eq_by_cmp, is_eq}
use Rattle.std.specs.Cmp.{tied_itself}
use Rattle.std.specs.Cmp.Lexicographic.{slice_cmp, nat_list_cmp_total}
use Rattle.std.specs.FinSet.{contains, insert, empty, union, contains-insert, contains-empty, contains-union, same_set}
use Rattle.std.specs.FinSet.{slice_cmp-IsAntisymmetric, nat_cmp-IsAntisymmetric}
use Rattle.std.proofs.lemmas.Map.Lookups.{exact_bytes}
use Rattle.std.proofs.lemmas.Map.Views.{tells_apart}
use Rattle.node_store.specs.Strings.{Strings, Has}

pub or_either : (a b : Bool) → (a || b) ≡ true → (a ≡ true) ⊎ (b ≡ true)
or_either true b h = inl refl
or_either false b h = inr h

pub or_left : (a b : Bool) → a ≡ true → (a || b) ≡ true
or_left true b h = refl
or_left false b h = absurd (cc h)

pub or_right : (a b : Bool) → b ≡ true → (a || b) ≡ true
or_right true b h = refl
or_right false b h = h

-- a string compares as equal to itself
pub tied : (s : List ℕ) → eq_by_cmp (slice_cmp nat_cmp) s s ≡ true
tied s = ap is_eq (tied_itself nat_list_cmp_total s)

-- two strings are equal or different
pub decide : (x y : List ℕ) → (x ≡ y) ⊎ (x ≢ y)
decide x y = at (eq_by_cmp (slice_cmp nat_cmp) x y) refl
  where
    at : (b : Bool) → eq_by_cmp (slice_cmp nat_cmp) x y ≡ b → (x ≡ y) ⊎ (x ≢ y)
    at true e = inl (tells_apart exact_bytes x y e)
    at false e =
        inr (λ same. let t : eq_by_cmp (slice_cmp nat_cmp) x y ≡ true =
        ap (eq_by_cmp (slice_cmp nat_cmp) x) (sym same) ∙ tied x in cc (t, e))

pub Has-empty : (q : List ℕ) → Has empty q → ⊥
Has-empty q h = let e = contains-empty (slice_cmp nat_cmp) q in cc (e, h)

-- the strings of a set after an insertion
pub Has-insert : (v : Strings) (k q : List ℕ) → Has (insert v k) q → (q ≡ k) ⊎ Has v q
Has-insert v k q h =
    elim (or_either (eq_by_cmp (slice_cmp nat_cmp) q k) (contains v q)
    (sym (contains-insert nat_list_cmp_total v k q) ∙ h)) [
      | inl t ↦ inl (tells_apart exact_bytes q k t)
      | inr m ↦ inr m
    ]

pub Has-insert_same : (v : Strings) (k : List ℕ) → Has (insert v k) k
Has-insert_same v k = contains-insert nat_list_cmp_total v k k ∙ ap (λ b. b || contains v k) (tied k)

pub Has-insert_other : (v : Strings) (k q : List ℕ) → Has v q → Has (insert v k) q
Has-insert_other v k q h = contains-insert nat_list_cmp_total v k q ∙ or_right _ _ h

-- the strings of a union
pub Has-union_left : (v w : Strings) (q : List ℕ) → Has v q → Has (union v w) q
Has-union_left v w q h = contains-union nat_list_cmp_total v w q ∙ or_left _ _ h

pub Has-union_right : (v w : Strings) (q : List ℕ) → Has w q → Has (union v w) q
Has-union_right v w q h = contains-union nat_list_cmp_total v w q ∙ or_right _ _ h

pub Has-union_cases : (v w : Strings) (q : List ℕ) → Has (union v w) q → Has v q ⊎ Has w q
Has-union_cases v w q h = or_either _ _ (sym (contains-union nat_list_cmp_total v w q) ∙ h)

-- two booleans that imply each other are equal
pub same_bool : (a b : Bool) → (a ≡ true → b ≡ true) → (b ≡ true → a ≡ true) → a ≡ b
same_bool true b f g = sym (f refl)
same_bool false true f g = g refl
same_bool false false f g = refl

-- two sets with the same strings are equal
pub same_strings : (s t : Strings) → ((q : List ℕ) → Has s q → Has t q) → ((q : List ℕ) → Has t q → Has s q) → s ≡ t
same_strings s t to from =
    same_set nat_list_cmp_total (slice_cmp-IsAntisymmetric nat_cmp-IsAntisymmetric) s t
    (λ q. same_bool _ _ (to q) (from q))

-- to insert a held string changes nothing
pub insert_held : (v : Strings) (k : List ℕ) → Has v k → insert v k ≡ v
insert_held v k held =
    same_strings _ _ (λ q h. elim (Has-insert v k q h) [ inl e ↦ subst (Has v) (sym e) held | inr m ↦ m ])
    (λ q h. Has-insert_other v k q h)
