-- The size of a set of strings, and when a subset of the same size is the same set.
use Rattle.std.proofs.Common.{◌≡◌, ℕ, zero, suc, ◌+◌, ◌-◌, ◌≤◌, List, [], ◌∷◌, length, Bool, true, false, sym, refl, ap}
use Rattle.std.proofs.Common.{◌∙◌, subst, arith, inl, inr, Some, None}
use Rattle.std.specs.Prelude.{◌&&◌, ◌||◌, ◌≢◌, ◌↔◌, IsTrue, Option, cond, is_some, not, option_copied}
use Rattle.std.specs.Borrow.{Bor}
use Rattle.std.specs.Ordering.{nat_cmp, eq_by_cmp, is_eq}
use Rattle.std.specs.declared.cmp.Ordering.TheVariants.{Less}
use Rattle.std.specs.Cmp.Lexicographic.{slice_cmp, nat_list_cmp_total}
use Rattle.std.specs.List.{AllByRecursion, list_any}
use Rattle.std.specs.List.Sorted.{IsStrictlySortedBy}
use Rattle.std.specs.FinSet.{contains, contains-from_list, contains-items, contains-remove, empty, empty_of_len, from_list}
use Rattle.std.specs.FinSet.{insert, items, len, len-empty, len-insert, len-remove, remove}
use Rattle.std.proofs.lemmas.Option.{slice_get_within, slice_get_cases, none-some}
use Rattle.node_store.specs.Strings.{Strings, Has}
use Rattle.node_store.proofs.Sets.{Has-empty, Has-insert, same_strings, tied}
use Rattle.mirror_model.specs.Listed.{ListsNotes}
use Rattle.mirror_model.specs.View.{View, IsSubview}
use Rattle.mirror_model.proofs.StringSets.{has_from_listed, listed_from_has}
use Rattle.tlog_mirror.specs.NoteLists.{IsNoteAt}
use Rattle.state_commands.specs.Gained.{IsHolding}
use Rattle.state_commands.specs.declared.gained.HeldCounts.{HeldCounts}

-- ---- sets

abbrev pub IsWithin : Strings → Strings → Type 0
IsWithin s t = (q : List ℕ) → Has s q → Has t q

both : (a b c : Bool) → (b ≡ true → c ≡ true) → (a && b) ≡ true → (a && c) ≡ true
both true b c f h = f h
both false b c f h = h

-- a subset remains a subset if the same string is removed from both sets
less_within : (s t : Strings) (k : List ℕ) → IsWithin s t → IsWithin (remove s k) (remove t k)
less_within s t k within q has =
    contains-remove nat_list_cmp_total t k q
    ∙ both (not (eq_by_cmp (slice_cmp nat_cmp) q k)) (contains s q) (contains t q) (within q)
    (sym (contains-remove nat_list_cmp_total s k q) ∙ has)

no_items : (s : Strings) → items s ≡ [] → len s ≡ 0
no_items s none =
    ap len (same_strings s empty
    (λ q h. absurd (let e : contains s q ≡ false = contains-items s q ∙ ap (list_any (eq_by_cmp (slice_cmp nat_cmp) q)) none in
    cc (e, h)))
    (λ q h. absurd (Has-empty q h)))
    ∙ len-empty (slice_cmp nat_cmp)

first_item : (s : Strings) (k : List ℕ) (ks : List (List ℕ)) → items s ≡ k ∷ ks → Has s k
first_item s k ks is =
    contains-items s k ∙ ap (list_any (eq_by_cmp (slice_cmp nat_cmp) k)) is
    ∙ ap (λ b. b || list_any (eq_by_cmp (slice_cmp nat_cmp) k) ks) (tied k)

-- a set that has a string is not empty
has_some : (t : Strings) (k : List ℕ) → Has t k → 1 ≤ len t
has_some t k has = elim (len t) as (λ n. len t ≡ n → 1 ≤ n) [
  | zero ↦ λ none. absurd (Has-empty k (subst (λ (u : Strings). Has u k) (empty_of_len t none) has))
  | suc m ↦ λ some. omega arith
] refl

-- a subset has at most as many strings
at_most : (n : ℕ) (s t : Strings) → n ≤ len s → IsWithin s t → n ≤ len t
at_most zero s t h within = omega arith
at_most (suc n) s t h within =
    elim (items s) as (λ ks. items s ≡ ks → suc n ≤ len t) [
      | [] ↦ λ none. let e = no_items s none in absurd (omega (arith, h, e))
      | k ∷ ks ↦ λ some.
          let has = first_item s k ks some in
          let one = has_some t k (within k has) in
          let left : len (remove s k) ≡ len s - 1 =
          len-remove nat_list_cmp_total s k ∙ ap (λ b. cond b (len s - 1) (len s)) has in
          let right : len (remove t k) ≡ len t - 1 =
          len-remove nat_list_cmp_total t k ∙ ap (λ b. cond b (len t - 1) (len t)) (within k has) in
          let rest : n ≤ len (remove t k) =
          at_most n (remove s k) (remove t k) (omega (arith, h, left)) (less_within s t k within) in
          omega (arith, one, right, rest)
    ] refl

-- a subset that has at least as many strings is the same set
pub same_of_len : (s t : Strings) → IsWithin s t → len t ≤ len s → t ≡ s
same_of_len s t within no_more = same_strings t s from within
  where
    from : (q : List ℕ) → Has t q → Has s q
    from q h = elim (contains s q) as (λ b. contains s q ≡ b → contains s q ≡ true) [
      | true ↦ λ is. is
      | false ↦ λ out.
          let more : len (insert s q) ≡ len s + 1 =
          len-insert nat_list_cmp_total s q ∙ ap (λ b. cond b (len s) (len s + 1)) out in
          let added : IsWithin (insert s q) t =
          λ k m. elim (Has-insert s q k m) [ inl is ↦ subst (Has t) (sym is) h | inr old ↦ within k old ] in
          let most : len (insert s q) ≤ len t = at_most (len (insert s q)) (insert s q) t (omega arith) added in
          absurd (omega (arith, more, most, no_more))
    ] refl

-- ---- lists of notes

none_tied : (x : List ℕ) (ys : List (List ℕ)) → AllByRecursion (λ y. slice_cmp nat_cmp x y ≡ Less) ys →
    list_any (eq_by_cmp (slice_cmp nat_cmp) x) ys ≡ false
none_tied x [] all = refl
none_tied x (y ∷ ys) all =
    ap (λ o. is_eq o || list_any (eq_by_cmp (slice_cmp nat_cmp) x) ys) all.0 ∙ none_tied x ys all.1

len_of_sorted : (xs : List (List ℕ)) → IsStrictlySortedBy (slice_cmp nat_cmp) xs →
    len (from_list {R = slice_cmp nat_cmp} xs) ≡ length xs
unfolding IsStrictlySortedBy
len_of_sorted [] sorted = len-empty (slice_cmp nat_cmp)
len_of_sorted (x ∷ xs) sorted =
    let set : Strings = from_list xs in
    let out : contains set x ≡ false =
    contains-from_list nat_list_cmp_total xs x ∙ none_tied x xs sorted.0 in
    let more : len (insert set x) ≡ len set + 1 =
    len-insert nat_list_cmp_total set x ∙ ap (λ b. cond b (len set) (len set + 1)) out in
    let rest = len_of_sorted xs sorted.1 in
    omega (arith, more, rest)

-- a view has as many notes as the list of its notes
pub len_of_notes : (v : View) (notes : List (List ℕ)) → ListsNotes v notes → len v.notes ≡ length notes
len_of_notes v notes lists =
    ap len (same_strings v.notes (from_list notes)
    (λ q h. has_from_listed notes q ((lists.exact q).1 h))
    (λ q h. (lists.exact q).0 (listed_from_has notes q h)))
    ∙ len_of_sorted notes lists.sorted

-- if there is no note at an index, the view has at most that number of notes
pub no_more_notes : (v : View) (i : ℕ) → IsNoteAt v i None → len v.notes ≤ i
no_more_notes v i at =
    let count = len_of_notes v at.0 at.1 in
    let past : length at.0 ≤ i = elim (slice_get_cases at.0 i).1 as (λ _. length at.0 ≤ i) [
      | inl found ↦ absurd (none-some found.0 (sym at.2 ∙ found.2))
      | inr end ↦ end.0
    ] in
    omega (arith, count, past)

-- if there is a note at an index, the view has more notes than that
pub more_notes : (v : View) (i : ℕ) (note : List ℕ) → IsNoteAt v i (Some note) → i + 1 ≤ len v.notes
more_notes v i note at =
    let count = len_of_notes v at.0 at.1 in
    let within = slice_get_within at.0 i note at.2 in
    omega (arith, count, within)

-- ---- views

-- if a view is a subview of another, and the other has no more notes or strings, they are the same
pub same_view : (v w : View) → IsSubview v w → len w.notes ≤ len v.notes → len w.strings ≤ len v.strings → w ≡ v
same_view v w sub notes strings =
    let o = sub.origin_is in
    let n : w.notes ≡ v.notes = same_of_len v.notes w.notes sub.notes_are notes in
    let s : w.strings ≡ v.strings = same_of_len v.strings w.strings sub.strings_are strings in
    λ i. record { origin = sym o i; notes = n i; strings = s i }

some_more : (v : View) (i : ℕ) (note : Option (Bor (List ℕ))) → IsNoteAt v i (option_copied note) →
    is_some note ≡ true → i + 1 ≤ len v.notes
some_more v i (Some note) at is = more_notes v i note.now at
some_more v i None at is = absurd (cc is)

none_more : (v : View) (i : ℕ) (note : Option (Bor (List ℕ))) → IsNoteAt v i (option_copied note) →
    is_some note ≡ false → len v.notes ≤ i
none_more v i (Some note) at is = absurd (cc is)
none_more v i None at is = no_more_notes v i at

-- if a view contains an old one and has the same number of strings, it differs exactly if it has one more note
pub gains_note : (old new : View) (holding : HeldCounts) (note : Option (Bor (List ℕ))) → IsHolding old holding →
    IsSubview old new → len new.strings ≡ holding.strings → IsNoteAt new holding.notes (option_copied note) →
    IsTrue (is_some note) ↔ (new ≢ old)
gains_note old new holding note held sub strings at = (
  λ more same.
      let one = some_more new holding.notes note at more in
      let n : len new.notes ≡ len old.notes = ap (λ (v : View). len v.notes) same in
      let m = held.notes in
      omega (arith, one, n, m),
  λ differs. elim (is_some note) as (λ b. is_some note ≡ b → is_some note ≡ true) [
    | true ↦ λ is. is
    | false ↦ λ is.
        let none = none_more new holding.notes note at is in
        let m = held.notes in
        let s = held.strings in
        absurd (differs (same_view old new sub (omega (arith, none, m)) (omega (arith, strings, s))))
  ] refl,
)

-- if it has no more notes, it is the old view
pub same_unless : (old new : View) (holding : HeldCounts) (note : Option (Bor (List ℕ))) → IsHolding old holding →
    IsSubview old new → len new.strings ≡ holding.strings → IsNoteAt new holding.notes (option_copied note) →
    (IsTrue (is_some note) → ⊥) → new ≡ old
same_unless old new holding note held sub strings at not =
    elim (is_some note) as (λ b. is_some note ≡ b → new ≡ old) [
      | true ↦ λ is. absurd (not is)
      | false ↦ λ is.
          let none = none_more new holding.notes note at is in
          let m = held.notes in
          let s = held.strings in
          same_view old new sub (omega (arith, none, m)) (omega (arith, strings, s))
    ] refl
