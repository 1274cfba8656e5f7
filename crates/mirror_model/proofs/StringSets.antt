-- Sets of strings: their members, and equal sets.
use Rattle.std.proofs.Common.{◌≡◌, ℕ, List, [], ◌∷◌, Bool, true, false, sym, refl, ◌∙◌, ◌⊎◌, inl, inr}
use Rattle.std.specs.Ordering.{nat_cmp, eq_by_cmp}
use Rattle.std.specs.Cmp.Lexicographic.{slice_cmp, nat_list_cmp_total}
use Rattle.std.specs.List.{Contains, AllByRecursion, list_any}
use Rattle.std.specs.FinSet as set
use Rattle.std.specs.FinSet.{contains, contains-insert, contains-from_list}
use Rattle.std.specs.FinSet.{contains-items}
use Rattle.std.proofs.lemmas.List.Elements.{All-contains, All-from_recursion, recursion_from_All, All-weaker}
use Rattle.std.proofs.lemmas.List.Elements.{All-contains_itself, All-nil, All-cons}
use Rattle.std.proofs.lemmas.Map.Lookups.{exact_bytes}
use Rattle.std.proofs.lemmas.Map.Views.{tells_apart, Contains-from_any}
use Rattle.node_store.proofs.Sets.{or_left, or_right, tied}
pub use Rattle.node_store.proofs.Sets.{Has-union_cases as has_cases, Has-empty as has_empty, same_strings}
pub use Rattle.node_store.proofs.Sets.{Has-union_left as has_left, Has-union_right as has_right}
use Rattle.node_store.specs.Strings.{Strings, Has, HasAll, NoClash, ClashesWith}
use Rattle.mirror_model.specs.Strings.{HasClash}

-- a set either has a string or does not
pub decide_has : (held : Strings) (string : List ℕ) → Has held string ⊎ (Has held string → ⊥)
decide_has held string = at (contains held string)
  where
    at : (b : Bool) → (b ≡ true) ⊎ (b ≡ true → ⊥)
    at true = inl refl
    at false = inr (λ h. let wrong : false ≡ true = h in cc wrong)

-- the set has each string of the list
abbrev pub HoldsAll : Strings → List (List ℕ) → Type 0
HoldsAll held wanted = (string : List ℕ) → Contains wanted string → Has held string

-- ---- unions

pub union_comm : (v w : Strings) → set.union v w ≡ set.union w v
union_comm v w = same_strings _ _ (half v w) (half w v)
  where
    half : (v w : Strings) (q : List ℕ) → Has (set.union v w) q → Has (set.union w v) q
    half v w q h = elim (has_cases v w q h) [ inl a ↦ has_right w v q a | inr b ↦ has_left w v q b ]

pub union_assoc : (v w x : Strings) → set.union (set.union v w) x ≡ set.union v (set.union w x)
union_assoc v w x = same_strings _ _ to from
  where
    to : (q : List ℕ) → Has (set.union (set.union v w) x) q → Has (set.union v (set.union w x)) q
    to q h = elim (has_cases (set.union v w) x q h) [
      | inl a ↦ elim
          (has_cases v w q a) [
            | inl b ↦ has_left v (set.union w x) q b
            | inr b ↦ has_right v (set.union w x) q
                (has_left w x q b)
          ]
      | inr a ↦ has_right v (set.union w x) q (has_right w x q a)
    ]

    from : (q : List ℕ) → Has (set.union v (set.union w x)) q → Has (set.union (set.union v w) x) q
    from q h = elim (has_cases v (set.union w x) q h) [
      | inl a ↦ has_left (set.union v w) x q (has_left v w q a)
      | inr a ↦ elim
          (has_cases w x q a) [
            | inl b ↦ has_left (set.union v w) x q (has_right v w q b)
            | inr b ↦ has_right
                (set.union v w) x q b
          ]
    ]

pub union_itself : (v : Strings) → set.union v v ≡ v
union_itself v = same_strings _ _ (λ q h. elim (has_cases v v q h) [ inl a ↦ a | inr b ↦ b ]) (λ q h. has_left v v q h)

-- ---- lists

pub listed_from_has : (ss : List (List ℕ)) (q : List ℕ) → Has (set.from_list ss) q → Contains ss q
listed_from_has ss q h =
    Contains-from_any (tells_apart exact_bytes) q ss (sym (contains-from_list nat_list_cmp_total ss q) ∙ h)

pub has_from_listed : (ss : List (List ℕ)) (q : List ℕ) → Contains ss q → Has (set.from_list ss) q
has_from_listed ss q c =
    All-contains (Has (set.from_list ss)) ss q
    (All-from_recursion (Has (set.from_list ss)) ss (each ss (set.from_list ss) (λ x h. h))) c
  where
    each : (ss : List (List ℕ)) (all : Strings) → ((x : List ℕ) → Has (set.from_list ss) x → Has all x) →
        AllByRecursion (Has all) ss
    each [] all more = tt
    each (s ∷ ss) all more = (
      more s (contains-insert nat_list_cmp_total (set.from_list ss) s s ∙ or_left _ _ (tied s)),
      each ss all (λ x h. more x (contains-insert nat_list_cmp_total (set.from_list ss) s x ∙ or_right _ _ h)),
    )

-- a list of one string has no other string
pub only_listed : (x y : List ℕ) → Has (set.from_list (x ∷ [])) y → y ≡ x
only_listed x y h =
    All-contains (λ z. z ≡ x) (x ∷ []) y (All-cons (λ z. z ≡ x) x [] refl (All-nil (λ z. z ≡ x)))
    (listed_from_has (x ∷ []) y h)

-- the strings of a set are in its list
pub in_items : (s : Strings) (q : List ℕ) → Has s q → Contains (set.items s) q
in_items s q h = Contains-from_any (tells_apart exact_bytes) q (set.items s) (sym (contains-items s q) ∙ h)

pub has_item : (s : Strings) (q : List ℕ) → Contains (set.items s) q → Has s q
has_item s q c = contains-items s q ∙ any_from (set.items s) q c
  where
    any_from : (ss : List (List ℕ)) (q : List ℕ) → Contains ss q → list_any (eq_by_cmp (slice_cmp nat_cmp) q) ss ≡ true
    any_from ss q c = sym (contains-from_list nat_list_cmp_total ss q) ∙ has_from_listed ss q c

-- ---- all strings of a list

pub all_from_held : (held : Strings) (wanted : List (List ℕ)) → HasAll held wanted → AllByRecursion (Has held) wanted
all_from_held held [] h = tt
all_from_held held (s ∷ ss) h = (h.0, all_from_held held ss h.1)

pub held_from_all : (held : Strings) (wanted : List (List ℕ)) → AllByRecursion (Has held) wanted → HasAll held wanted
held_from_all held [] h = tt
held_from_all held (s ∷ ss) h = (h.0, held_from_all held ss h.1)

pub holds_from_held : (held : Strings) (wanted : List (List ℕ)) → HasAll held wanted → HoldsAll held wanted
holds_from_held held wanted h string c =
    All-contains (Has held) wanted string (All-from_recursion (Has held) wanted (all_from_held held wanted h)) c

pub held_from_holds : (held : Strings) (wanted : List (List ℕ)) → HoldsAll held wanted → HasAll held wanted
held_from_holds held wanted h =
    held_from_all held wanted
    (recursion_from_All (Has held) wanted
    (All-weaker (Contains wanted) (Has held) h wanted (All-contains_itself wanted)))

pub held_more : (v w : Strings) (wanted : List (List ℕ)) → ((q : List ℕ) → Has v q → Has w q) → HasAll v wanted →
    HasAll w wanted
held_more v w [] more h = tt
held_more v w (s ∷ ss) more h = (more s h.0, held_more v w ss more h.1)

-- ---- collisions

pub no_clash_within : (digest : List ℕ → List ℕ) (v w : Strings) → ((q : List ℕ) → Has v q → Has w q) →
    NoClash digest w → NoClash digest v
no_clash_within digest v w more clean = record { same = λ x y hx hy e. clean.same x y (more x hx) (more y hy) e }

-- a collision within a set is one within a larger set
pub clash_within : (digest : List ℕ → List ℕ) (v w : Strings) → ((q : List ℕ) → Has v q → Has w q) →
    HasClash digest v → HasClash digest w
clash_within digest v w more c = record {
  first = c.first;
  second = c.second;
  first_held = more c.first c.first_held;
  second_held = more c.second c.second_held;
  same_digest = c.same_digest;
  differ = c.differ;
}

-- two sets that collide with each other collide within their union
pub union_clash : (digest : List ℕ → List ℕ) (v w : Strings) → ClashesWith digest v w →
    HasClash digest (set.union v w)
union_clash digest v w c = record {
  first = c.first;
  second = c.second;
  first_held = has_left v w c.first c.first_held;
  second_held = has_right v w c.second c.second_held;
  same_digest = c.same_digest;
  differ = c.differ;
}

pub clash_contradicts : (digest : List ℕ → List ℕ) (v : Strings) → NoClash digest v → HasClash digest v → ⊥
clash_contradicts digest v clean c = c.differ (clean.same c.first c.second c.first_held c.second_held c.same_digest)
