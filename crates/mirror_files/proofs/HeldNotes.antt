-- The notes of a mirror, in their order.
use Rattle.std.proofs.Common.{◌≡◌, inl, inr, ℕ, zero, suc, ◌+◌, ◌≤◌, take, get_or, Some, None, List}
use Rattle.std.proofs.Common.{[], ◌∷◌, ◌++◌, length, refl, sym, ap, subst, ◌∙◌, arith}
use Rattle.std.specs.Prelude.{slice_get}
use Rattle.std.proofs.lemmas.List.{take_more}
use Rattle.std.proofs.lemmas.Option.{slice_get_cases, slice_get_within, get_or_from_slice_get}
use Rattle.mirror_model.proofs.Listing.{notes_are_listed_once}
use Rattle.mirror_model.specs.Listed.{ListsNotes}
use Rattle.mirror_model.specs.View.{View}
use Rattle.tlog_mirror.specs.NoteLists.{IsNoteAt}

take_past : (i : ℕ) (xs : List (List ℕ)) → length xs ≤ i → take i xs ≡ xs
take_past zero [] past = refl
take_past zero (x ∷ xs) past = absurd (omega (arith, past))
take_past (suc i) [] past = refl
take_past (suc i) (x ∷ xs) past = ap (λ (rest : List (List ℕ)). x ∷ rest) (take_past i xs (omega (arith, past)))

past_none : (xs : List (List ℕ)) (i : ℕ) → slice_get xs i ≡ None → length xs ≤ i
past_none xs i none = elim (slice_get_cases xs i).1 [
  | inl found ↦ absurd (let e = sym none ∙ found.2 in cc e)
  | inr past ↦ past.0
]

pub note_more : (v : View) (i : ℕ) (all items : List (List ℕ)) (note : List ℕ) → IsNoteAt v i (Some note) →
    ListsNotes v all → items ≡ take i all → items ++ note ∷ [] ≡ take (i + 1) all
note_more v i all items note found h e =
    let same : found.0 ≡ all = notes_are_listed_once v found.0 all found.1 h in
    let is : slice_get all i ≡ Some note = subst (λ (xs : List (List ℕ)). slice_get xs i ≡ Some note) same found.2 in
    let x : note ≡ get_or all i note = sym (get_or_from_slice_get all i note note is) in
    ap (λ (xs : List (List ℕ)). xs ++ note ∷ []) e
    ∙ (ap (λ (y : List ℕ). take i all ++ y ∷ []) x ∙ sym (take_more all i note (slice_get_within all i note is)))

pub note_end : (v : View) (i : ℕ) (items : List (List ℕ)) → IsNoteAt v i None →
    ((all : List (List ℕ)) → ListsNotes v all → items ≡ take i all) → ListsNotes v items
note_end v i items found h =
    subst (ListsNotes v) (sym (h found.0 found.1 ∙ take_past i found.0 (past_none found.0 i found.2))) found.1
