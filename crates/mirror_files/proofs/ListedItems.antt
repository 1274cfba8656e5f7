-- Listed items: their order, and the strings that are added for them.
use Rattle.std.proofs.Common.{◌≡◌, inl, inr, ℕ, ◌+◌, ◌-◌, ◌<◌, ◌≤◌, Bool, true, false, List, [], ◌∷◌, ◌++◌, length, map}
use Rattle.std.proofs.Common.{take, drop, get_or, All, Result, Ok, Err, Bor, refl, sym, ap, subst, ◌∙◌, arith}
use Rattle.std.specs.Prelude.{◌↔◌, IsTrue}
use Rattle.std.specs.FinSet as set
use Rattle.std.specs.List.{Contains}
use Rattle.std.specs.Ordering.{nat_cmp, is_lt}
use Rattle.std.specs.declared.cmp.Ordering.{Ordering}
use Rattle.std.specs.declared.cmp.Ordering.TheVariants.{Less, Equal, Greater}
use Rattle.std.specs.Cmp.Lexicographic.{slice_cmp, nat_list_cmp_total}
use Rattle.std.proofs.lemmas.List.{map-append, take_more, take_all, take-append-drop, get_or-map, length-map}
use Rattle.std.proofs.lemmas.Bool.{cases_lt}
use Rattle.std.proofs.lemmas.List.Elements.{All-contains, All-push, Contains-append_left}
use Rattle.std.proofs.lemmas.Map.Keys.{Less-from_sorted, sorted_from_all_adjacent}
use Rattle.node_store.specs.Strings.{Strings, Has, NoClash, Clashes}
use Rattle.node_store.specs.declared.store.AddFault.{AddFault}
use Rattle.node_store.specs.declared.store.AddFault.TheVariants as adding
use Rattle.mirror_model.specs.Strings.{HasClash}
use Rattle.mirror_model.proofs.StringSets.{listed_from_has, has_from_listed, same_strings, has_cases, has_left}
use Rattle.mirror_model.proofs.StringSets.{has_right, has_empty, clash_within}
use Rattle.mirror_trees.proofs.BuiltTrees.{added_both, added_one}
use Rattle.mirror_files.specs.Content.{Rises}
use Rattle.mirror_files.proofs.Mapped.{mapped}
use Rattle.mirror_files.specs.Storing.{AddsListed, MakesStore, tagged_as}
use Rattle.mirror_files.specs.declared.storing.Kind.TheVariants.{Strings as Tags}

-- ---- order

abbrev by_bytes : List ℕ → List ℕ → Ordering
by_bytes = slice_cmp nat_cmp

pub less_tells : (o : Ordering) → IsTrue (is_lt o) ↔ (o ≡ Less)
less_tells Less = (λ t. refl, λ e. refl)
less_tells Equal = (λ t. absurd (cc t), λ e. absurd (cc e))
less_tells Greater = (λ t. absurd (cc t), λ e. absurd (cc e))

pub before_tells : (b : Bool) (o p : Ordering) → b ≡ is_lt o → o ≡ p → IsTrue b ↔ (p ≡ Less)
before_tells b o p e f =
    subst (λ q. IsTrue b ↔ (q ≡ Less)) f (subst (λ (t : Bool). IsTrue t ↔ (o ≡ Less)) (sym e) (less_tells o))

-- borrowed items, as lists
abbrev pub bytes_of : List (Bor (List ℕ)) → List (List ℕ)
bytes_of items = map (λ x. x.now) items

pub item_at : (items : List (Bor (List ℕ))) (i : ℕ) (d : Bor (List ℕ)) (e : List ℕ) → i < length items →
    get_or (bytes_of items) i e ≡ (get_or items i d).now
item_at items i d e lt = get_or-map (λ (x : Bor (List ℕ)). x.now) items i d e lt

pub same_len : (items : List (Bor (List ℕ))) → length (bytes_of items) ≡ length items
same_len items = length-map items (λ (x : Bor (List ℕ)). x.now)

-- the items so far rise
abbrev pub RisesTo : List (Bor (List ℕ)) → ℕ → Type 0
RisesTo items i = (k : ℕ) → k + 1 < i → k + 1 < length items →
    by_bytes (get_or (bytes_of items) k []) (get_or (bytes_of items) (k + 1) []) ≡ Less

module _ (items : List (Bor (List ℕ))) where
  pub rises_all : (i : ℕ) → length items ≤ i → RisesTo items i → IsTrue true ↔ Rises (bytes_of items)
  rises_all i all so_far = (
    λ t. sorted_from_all_adjacent nat_list_cmp_total (bytes_of items) [] (λ k lt. let in_items : k + 1 < length items =
        omega (arith, same_len items, lt) in so_far k (omega (arith, in_items, all)) in_items),
    λ r. refl,
  )

  module _ (i : ℕ) (some : 1 ≤ i) (lt : i < length items) (b : Bool) (a d : Bor (List ℕ))
      (tells : IsTrue b ↔ (by_bytes (get_or items (i - 1) a).now (get_or items i d).now ≡ Less)) where
    here : by_bytes (get_or (bytes_of items) (i - 1) []) (get_or (bytes_of items) i [])
        ≡ by_bytes (get_or items (i - 1) a).now (get_or items i d).now
    here t = by_bytes (item_at items (i - 1) a [] (omega (arith, lt)) t) (item_at items i d [] lt t)

    pub rises_more : b ≡ true → RisesTo items i → RisesTo items (i + 1)
    rises_more is so_far k low high = elim (cases_lt (k + 1) i) [
      | inl below ↦ so_far k below high
      | inr above ↦
          let e : i ≡ k + 1 = omega (arith, low, above) in
          let f : i - 1 ≡ k = omega (arith, e) in
          subst (λ n. by_bytes (get_or (bytes_of items) k []) (get_or (bytes_of items) n []) ≡ Less) e
          (subst (λ n. by_bytes (get_or (bytes_of items) n []) (get_or (bytes_of items) i []) ≡ Less) f
          (here ∙ tells.0 is))
    ]

    pub falls_here : b ≡ false → IsTrue false ↔ Rises (bytes_of items)
    falls_here is = (
      λ t. absurd (cc t),
      λ r. let less = Less-from_sorted by_bytes (bytes_of items) (i - 1) i [] r (omega (arith, some))
          (omega (arith, same_len items, lt)) in
          let t : b ≡ true = tells.1 (sym here ∙ less) in
          absurd (cc (t, is)),
    )

-- ---- added strings

clash_of : (digest : List ℕ → List ℕ) (v all : Strings) (s : List ℕ) → ((q : List ℕ) → Has v q → Has all q) →
    Has all s → Clashes digest v s → HasClash digest all
clash_of digest v all s within held c = record {
  first = c.other;
  second = s;
  first_held = within c.other c.is_held;
  second_held = held;
  same_digest = c.same_digest;
  differ = c.differs;
}

module _ (f : List ℕ → List ℕ) (items : List (Bor (List ℕ))) (i : ℕ) (d : Bor (List ℕ)) (lt : i < length items) where
  abbrev item : List ℕ
  item = (get_or items i d).now

  in_bytes : i < length (bytes_of items)
  in_bytes = omega (arith, same_len items, lt)

  pub more_taken : take (i + 1) (bytes_of items) ≡ take i (bytes_of items) ++ item ∷ []
  more_taken = take_more (bytes_of items) i item in_bytes
      ∙ ap (λ (x : List ℕ). take i (bytes_of items) ++ x ∷ []) (item_at items i d item lt)

  pub is_item : Contains (bytes_of items) item
  is_item = (i, in_bytes, item_at items i d item lt)

  pub listed_more :
      (old current new : Strings) → current ≡ set.union old (set.from_list (map f (take i (bytes_of items)))) →
      new ≡ set.insert current (f item) → new ≡ set.union old (set.from_list (map f (take (i + 1) (bytes_of items))))
  listed_more old current new before is =
      is ∙ added_one current (f item) ∙ ap (λ s. set.union s (set.from_list (f item ∷ []))) before
      ∙ added_both old (map f (take i (bytes_of items))) (f item ∷ [])
      ∙ ap (λ xs. set.union old (set.from_list xs)) (sym (map-append f (take i (bytes_of items)) (item ∷ [])))
      ∙ ap (λ xs. set.union old (set.from_list (map f xs))) (sym more_taken)

  pub listed_clash :
      (digest : List ℕ → List ℕ) (old current : Strings) →
      current ≡ set.union old (set.from_list (map f (take i (bytes_of items)))) → Clashes digest current (f item) →
      HasClash digest (set.union old (set.from_list (map f (bytes_of items))))
  listed_clash digest old current before c =
      clash_of digest current (set.union old (set.from_list (map f (bytes_of items)))) (f item) within
      (has_right old (set.from_list (map f (bytes_of items))) (f item)
      (has_from_listed (map f (bytes_of items)) (f item) (mapped f (bytes_of items) item is_item))) c
    where
      taken : (q : List ℕ) → Contains (map f (take i (bytes_of items))) q → Contains (map f (bytes_of items)) q
      taken q m = subst (λ xs. Contains xs q) (sym (map-append f (take i (bytes_of items)) (drop i (bytes_of items)))
          ∙ ap (map f) (take-append-drop i (bytes_of items)))
          (Contains-append_left (map f (take i (bytes_of items))) (map f (drop i (bytes_of items))) q m)

      within : (q : List ℕ) → Has current q → Has (set.union old (set.from_list (map f (bytes_of items)))) q
      within q h = elim (has_cases old (set.from_list (map f (take i (bytes_of items)))) q
          (subst (λ (s : Strings). Has s q) before h)) [
            | inl a ↦ has_left old (set.from_list (map f (bytes_of items))) q a
            | inr b ↦ has_right old (set.from_list (map f (bytes_of items))) q
                (has_from_listed (map f (bytes_of items)) q
                (taken q (listed_from_has (map f (take i (bytes_of items))) q b)))
          ]

  pub all_more : (P : List ℕ → Type 0) → All P (take i (bytes_of items)) → P item →
      All P (take (i + 1) (bytes_of items))
  all_more P so_far here = subst (All P) (sym more_taken) (All-push P (take i (bytes_of items)) item so_far here)

-- all items
pub listed_all : (items : List (Bor (List ℕ))) (i : ℕ) → length items ≤ i → take i (bytes_of items) ≡ bytes_of items
listed_all items i le = take_all i (bytes_of items) (omega (arith, same_len items, le))

-- ---- tests of each item

module _ (P : List ℕ → Type 0) (items : List (Bor (List ℕ))) (i : ℕ) (d : Bor (List ℕ)) (lt : i < length items) where
  pub all_fails : (b : Bool) → IsTrue b ↔ P (get_or items i d).now → b ≡ false → IsTrue false ↔ All P (bytes_of items)
  all_fails b tells is = (
    λ t. absurd (cc t),
    λ all. let t : b ≡ true = tells.1
        (All-contains P (bytes_of items) (get_or items i d).now all (is_item (λ (x : List ℕ). x) items i d lt)) in
        absurd (cc (t, is)),
  )

  pub all_goes_on : (b : Bool) → IsTrue b ↔ P (get_or items i d).now → b ≡ true → All P (take i (bytes_of items)) →
      All P (take (i + 1) (bytes_of items))
  all_goes_on b tells is so_far = all_more (λ (x : List ℕ). x) items i d lt P so_far (tells.0 is)

pub all_passes : (P : List ℕ → Type 0) (items : List (Bor (List ℕ))) (i : ℕ) → length items ≤ i →
    All P (take i (bytes_of items)) → All P (bytes_of items)
all_passes P items i le so_far = subst (All P) (listed_all items i le) so_far

-- ---- answers of adding strings

pub listed_refused :
    (digest : List ℕ → List ℕ) (f : List ℕ → List ℕ) (items : List (Bor (List ℕ))) (i : ℕ) (d : Bor (List ℕ)) →
    i < length items → (old current new : Strings) →
    current ≡ set.union old (set.from_list (map f (take i (bytes_of items)))) → (fault : AddFault) →
    (◌≡◌ {A = Result (Unit {0}) AddFault} (Err fault) (Err adding.Collision) →
    Clashes digest current (f (get_or items i d).now)) →
    AddsListed digest old (map f (bytes_of items)) (Err fault) new
listed_refused digest f items i d lt old current new before adding.Collision clash =
    listed_clash f items i d lt digest old current before (clash refl)
listed_refused digest f items i d lt old current new before adding.OutOfMemory clash = tt

pub listed_done :
    (digest : List ℕ → List ℕ) (f : List ℕ → List ℕ) (items : List (Bor (List ℕ))) (i : ℕ) → length items ≤ i →
    (old new : Strings) → new ≡ set.union old (set.from_list (map f (take i (bytes_of items)))) → NoClash digest new →
    (new ≡ set.union old (set.from_list (map f (bytes_of items)))) × NoClash digest new
listed_done digest f items i le old new is clean =
    (is ∙ ap (λ xs. set.union old (set.from_list (map f xs))) (listed_all items i le), clean)

module _ (digest : List ℕ → List ℕ) (old : Strings) (xs ys : List (List ℕ)) where
  wider : (q : List ℕ) → Has (set.union old (set.from_list xs)) q → Has (set.union old (set.from_list (xs ++ ys))) q
  wider q h = elim (has_cases old (set.from_list xs) q h) [
    | inl a ↦ has_left old (set.from_list (xs ++ ys)) q a
    | inr b ↦ has_right old (set.from_list (xs ++ ys)) q
        (has_from_listed (xs ++ ys) q (Contains-append_left xs ys q (listed_from_has xs q b)))
  ]

  pub first_refused : (fault : AddFault) (new new' : Strings) → AddsListed digest old xs (Err fault) new →
      AddsListed digest old (xs ++ ys) (Err fault) new'
  first_refused adding.Collision new new' h =
      clash_within digest (set.union old (set.from_list xs)) (set.union old (set.from_list (xs ++ ys))) wider h
  first_refused adding.OutOfMemory new new' h = tt

  pub both_added : (mid new : Strings) (answer : Result (Unit {0}) AddFault) → mid ≡ set.union old (set.from_list xs) →
      AddsListed digest mid ys answer new → AddsListed digest old (xs ++ ys) answer new
  both_added mid new (Ok done) is h = (h.0 ∙ ap (λ s. set.union s (set.from_list ys)) is ∙ added_both old xs ys, h.1)
  both_added mid new (Err adding.Collision) is h =
      subst (HasClash digest) (ap (λ s. set.union s (set.from_list ys)) is ∙ added_both old xs ys) h
  both_added mid new (Err adding.OutOfMemory) is h = tt

tags_kept : (xs : List (List ℕ)) → map (tagged_as Tags) xs ≡ xs
tags_kept [] = refl
tags_kept (x ∷ xs) = ap (λ ys. x ∷ ys) (tags_kept xs)

pub tags_added : (digest : List ℕ → List ℕ) (old new : Strings) (xs : List (List ℕ))
    (answer : Result (Unit {0}) AddFault) → AddsListed digest old (map (tagged_as Tags) xs) answer new →
    AddsListed digest old xs answer new
tags_added digest old new xs answer h = subst (λ ys. AddsListed digest old ys answer new) (tags_kept xs) h

pub union_none : (v : Strings) → set.union set.empty v ≡ v
union_none v = same_strings
    (set.union set.empty v) v (λ q h. elim (has_cases set.empty v q h) [ inl a ↦ absurd (has_empty q a) | inr b ↦ b ])
    (λ q h. has_right set.empty v q h)

module _ (digest : List ℕ → List ℕ) (strings : List (List ℕ)) (none : Strings) (empty : none ≡ set.empty) where
  alone : set.union none (set.from_list strings) ≡ set.from_list strings
  alone = ap (λ s. set.union s (set.from_list strings)) empty ∙ union_none (set.from_list strings)

  pub store_made : (new : Strings) → (new ≡ set.union none (set.from_list strings)) × NoClash digest new →
      (new ≡ set.from_list strings) × NoClash digest new
  store_made new h = (h.0 ∙ alone, h.1)

  pub store_refused : (fault : AddFault) (new : Strings) → AddsListed digest none strings (Err fault) new →
      MakesStore digest strings (Err fault)
  store_refused adding.Collision new h = subst (HasClash digest) alone h
  store_refused adding.OutOfMemory new h = tt
