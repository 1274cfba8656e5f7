use Rattle.std.proofs.Common.{◌<◌, ◌≤◌, List, Ok, Err, length, sym, subst, ap, ◌∙◌}
use Rattle.std.specs.Prelude.{string_bytes}
use Rattle.std.specs.List.Sorted.{IsBinarySearchResult}
use Rattle.node_store.specs.Strings.{Has}
use Rattle.mirror_model.specs.Complete.{HasEdge}
use Rattle.mirror_model.specs.Heads.{IsHead}
use Rattle.mirror_model.specs.Marks.{State}
use Rattle.tlog_mirror.specs.Adding.{with_note}
use Rattle.tlog_mirror.specs.Kept.{state_of, note_bytes, IsKeptWell}
use Rattle.mirror_trees.specs.declared.held_note.HeldNote.{HeldNote}
use Rattle.tlog_mirror.proofs.KeptNotes.{by_bytes, found_is_kept, inserted_well, inserted_view, kept_view}
use Rattle.tlog_mirror.proofs.mirror.Mirror.keep_note.Goals as goal

pub invariant_of-self-in-Err : goal.invariant_of-self-in-Err
invariant_of-self-in-Err g c =
    let d = g.H.TreeHash.digest in
    let origin = string_bytes c.self.inside.origin in
    let kept = c.self.inside.kept.items in
    let k = c.args.kept in
    let at = c.in-Err.at in
    let within : at ≤ length kept =
    subst (λ (xs : List HeldNote). at ≤ length xs) c.as_slice.ensures.value c.in-Err.ensures.bound in
    let gap : IsBinarySearchResult (λ x. by_bytes (note_bytes x) (note_bytes k)) kept (Err at) =
    subst (λ (xs : List HeldNote). IsBinarySearchResult (λ x. by_bytes (note_bytes x) (note_bytes k)) xs
    (Err at)) c.as_slice.ensures.value
    (subst (λ b. IsBinarySearchResult (λ x. by_bytes (note_bytes x) b) c.as_slice.result.now
    (Err at)) c.bytes.ensures.bytes c.in-Err.ensures.place) in
    let said : IsHead (note_bytes k) origin k.size k.root =
    subst (λ (s : State). IsHead (note_bytes k) s.view.origin k.size k.root) (sym c.self.view_is) c.requires.said in
    let edge : HasEdge d (state_of origin kept c.self.inside.strings c.self.inside.known.remembered).view (note_bytes k) =
    subst (λ (s : State). HasEdge d s.view (note_bytes k)) (sym c.self.view_is) c.requires.edge in (
      subst (λ (xs : List HeldNote). IsKeptWell d origin xs c.self.inside.strings c.self.inside.known.remembered)
          (sym c.in_ok-insert-in-Err.ensures.items)
          (inserted_well d origin kept c.self.inside.strings c.self.inside.known.remembered c.self.invariant.0 k
          at within gap said edge),
      (c.self.invariant.1.0, tt),
    )

pub returns-in-Ok-clause-ok : goal.returns-in-Ok-clause-ok
returns-in-Ok-clause-ok g c =
    let kept = c.self.inside.kept.items in
    let bytes = c.args.kept.note.bytes in
    let at = c.in-Ok.field-0 in
    let within : at < length kept =
    subst (λ (xs : List HeldNote). at < length xs) c.as_slice.ensures.value c.in-Ok.ensures.bound in
    let found : IsBinarySearchResult (λ x. by_bytes (note_bytes x) bytes) kept (Ok at) =
    subst (λ (xs : List HeldNote). IsBinarySearchResult (λ x. by_bytes (note_bytes x) bytes) xs
    (Ok at)) c.as_slice.ensures.value
    (subst (λ b. IsBinarySearchResult (λ x. by_bytes (note_bytes x) b) c.as_slice.result.now
    (Ok at)) c.bytes.ensures.bytes c.in-Ok.ensures.place) in
    kept_view c.args.self.now.view bytes
    (subst (λ (s : State). Has s.view.notes bytes) c.self.view_is (found_is_kept kept bytes at within found))

pub returns-in_ok-insert-in-Err-clause-ok : goal.returns-in_ok-insert-in-Err-clause-ok
returns-in_ok-insert-in-Err-clause-ok g c =
    let d = g.H.TreeHash.digest in
    let origin = string_bytes c.self.inside.origin in
    let kept = c.self.inside.kept.items in
    let k = c.args.kept in
    ap (λ (xs : List HeldNote). (state_of origin xs c.self.inside.strings c.self.inside.known.remembered).view)
    c.in_ok-insert-in-Err.ensures.items
    ∙ inserted_view d origin kept c.self.inside.strings c.self.inside.known.remembered c.self.invariant.0 k c.in-Err.at
    ∙ ap (λ (s : State). with_note s.view (note_bytes k)) c.self.view_is
