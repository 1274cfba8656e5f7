-- The kept notes of a mirror are those of its view, in order.
use Rattle.std.proofs.Common.{◌≡◌, ℕ, ◌<◌, ◌≤◌, List, length, map, get_or, Some, None, sym, ap, subst, ◌∙◌}
use Rattle.std.specs.Prelude.{option_map}
use Rattle.std.proofs.lemmas.Option.{slice_get-map, slice_get-get_or, slice_get_past}
use Rattle.node_store.specs.Strings.{Strings}
use Rattle.mirror_model.specs.Listed.{ListsNotes}
use Rattle.mirror_model.specs.Marks.{Points, State}
use Rattle.mirror_model.proofs.StringSets.{has_from_listed, listed_from_has}
use Rattle.tlog_mirror.specs.Kept.{state_of, note_bytes, IsKeptWell}
use Rattle.tlog_mirror.specs.NoteLists.{IsNoteAt}
use Rattle.mirror_trees.specs.declared.held_note.HeldNote.{HeldNote}

module _ (digest : List ℕ → List ℕ) (origin : List ℕ) (kept : List HeldNote) (strings : Strings) (remembered : Points)
    (ok : IsKeptWell digest origin kept strings remembered) (state : State)
    (is : state_of origin kept strings remembered ≡ state) (i : ℕ) where
  lists_notes : ListsNotes state.view (map note_bytes kept)
  lists_notes = subst (λ (s : State). ListsNotes s.view (map note_bytes kept)) is (record {
    sorted = ok.rising;
    exact = λ note. (has_from_listed (map note_bytes kept) note, listed_from_has (map note_bytes kept) note);
  })

  pub note_found : (k : HeldNote) (bytes : List ℕ) → i < length kept → k ≡ get_or kept i k → bytes ≡ note_bytes k →
      IsNoteAt state.view i (Some bytes)
  note_found k bytes lt at same = (
    map note_bytes kept,
    lists_notes,
    slice_get-map note_bytes kept i ∙ ap (option_map note_bytes) (slice_get-get_or kept i k lt ∙ ap Some (sym at)) ∙
        ap Some (sym same),
  )

  pub note_past : length kept ≤ i → IsNoteAt state.view i None
  note_past le = (
    map note_bytes kept,
    lists_notes,
    slice_get-map note_bytes kept i ∙ ap (option_map note_bytes) (slice_get_past kept i le),
  )
