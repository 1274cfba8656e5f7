-- A look for a note with the bytes of a file.
use Rattle.std.proofs.Common.{◌≡◌, ℕ, ◌+◌, ◌<◌, ◌≤◌, List, length, map, get_or, Some, None, IfNone, Option, IsTrue, sym, ap, subst, ◌∙◌, inl, inr, arith, ◌↔◌, Bool, false}
use Rattle.std.specs.Prelude.{option_map, ◌≢◌}
use Rattle.std.proofs.lemmas.Bool.{cases_eq, cases_lt, false≢true}
use Rattle.std.proofs.lemmas.List.{length-map}
use Rattle.std.proofs.lemmas.Option.{slice_get-map, slice_get-get_or, slice_get_within, same_Some}
use Rattle.state_commands.specs.NoteFiles.{HeadNote, head_note, is_alike}
use Rattle.state_commands.specs.Ordered.{IsNoteWith}
use Rattle.state_commands.specs.declared.note_list.HeadNote.{HeadNote as LentNote}
use Rattle.std.proofs.Common.{slice_get}

lent_at : (heads : List LentNote) (k : ℕ) (d : LentNote) → k < length heads →
    slice_get (map head_note heads) k ≡ Some (head_note (get_or heads k d))
lent_at heads k d lt = slice_get-map head_note heads k ∙ ap (option_map head_note) (slice_get-get_or heads k d lt)

-- the test of a note at an index
abbrev pub IsFoundAt : List LentNote → ℕ → ℕ → LentNote → LentNote → List ℕ → Type 0
IsFoundAt heads i j d e bytes =
    IsTrue (is_alike (head_note (get_or heads j d)) (head_note (get_or heads i e))) × ((get_or heads j d).bytes.now ≡ bytes)

pub note_found : (heads : List LentNote) (i j : ℕ) (d e : LentNote) (bytes : List ℕ) → i < length heads → j < length heads →
    IsFoundAt heads i j d e bytes → IsNoteWith (map head_note heads) i bytes j
note_found heads i j d e bytes in_i in_j found = record {
  head = head_note (get_or heads i e);
  other = head_note (get_or heads j d);
  is_head = lent_at heads i e in_i;
  is_other = lent_at heads j d in_j;
  alike = found.0;
  bytes_are = found.1;
}

found_there : (heads : List LentNote) (i j : ℕ) (d e : LentNote) (bytes : List ℕ) → i < length heads → j < length heads →
    IsNoteWith (map head_note heads) i bytes j → IsFoundAt heads i j d e bytes
found_there heads i j d e bytes in_i in_j found =
    let head : head_note (get_or heads i e) ≡ found.head =
    same_Some (head_note (get_or heads i e)) found.head (sym (lent_at heads i e in_i) ∙ found.is_head) in
    let other : head_note (get_or heads j d) ≡ found.other =
    same_Some (head_note (get_or heads j d)) found.other (sym (lent_at heads j d in_j) ∙ found.is_other) in (
      subst (λ (h : HeadNote). IsTrue (is_alike (head_note (get_or heads j d)) h)) (sym head)
          (subst (λ (o : HeadNote). IsTrue (is_alike o found.head)) (sym other) found.alike),
      ap (λ (o : HeadNote). o.note) other ∙ found.bytes_are,
    )

-- one more note that is another one
pub none_more : (heads : List LentNote) (i j start : ℕ) (d e : LentNote) (bytes : List ℕ) (test : Bool) → i < length heads →
    j < length heads → (IsTrue test ↔ IsFoundAt heads i j d e bytes) → test ≡ false →
    ((k : ℕ) → start ≤ k → k < j → ¬ IsNoteWith (map head_note heads) i bytes k) →
    (k : ℕ) → start ≤ k → k < j + 1 → ¬ IsNoteWith (map head_note heads) i bytes k
none_more heads i j start d e bytes test in_i in_j tells fails before k from below found = elim (cases_eq k j) [
  | inl is ↦
      let here : IsNoteWith (map head_note heads) i bytes j = subst (IsNoteWith (map head_note heads) i bytes) is found in
      false≢true (sym fails ∙ tells.1 (found_there heads i j d e bytes in_i in_j here))
  | inr not ↦ before k from (omega (arith, below, not)) found
]

-- no other note, behind the index or before it
pub none_other : (heads : List LentNote) (i : ℕ) (bytes : List ℕ) (result : Option ℕ) →
    ((k : ℕ) → i + 1 ≤ k → k < length heads → ¬ IsNoteWith (map head_note heads) i bytes k) →
    IfNone result ((k : ℕ) → 0 ≤ k → k < i → ¬ IsNoteWith (map head_note heads) i bytes k) →
    IfNone result ((k : ℕ) → k ≢ i → ¬ IsNoteWith (map head_note heads) i bytes k)
none_other heads i bytes (Some j) behind before = tt
none_other heads i bytes None behind before = λ k other found. elim (cases_lt k i) [
  | inl lt ↦ before k (omega arith) lt found
  | inr ge ↦
      let size = length-map heads head_note in
      let within : k < length (map head_note heads) = slice_get_within (map head_note heads) k found.other found.is_other in
      behind k (omega (arith, ge, other)) (omega (arith, size, within)) found
]
