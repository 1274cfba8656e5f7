-- Notes that were opened, and then kept.
use Rattle.std.proofs.Common.{◌≡◌, ℕ, ◌+◌, ◌<◌, ◌≤◌, List, [], ◌∷◌, ◌++◌, length, map, take, get_or, All, Bool, true, false, Ok}
use Rattle.std.proofs.Common.{sym, ap, subst, ◌∙◌, arith}
use Rattle.std.proofs.lemmas.List.{get_or-map, length-map, take_all, take_more}
use Rattle.std.proofs.lemmas.List.Elements.{All-contains, All-push, All-weaker}
use Rattle.signed_note.specs.Keys.{Key}
use Rattle.mirror_model.specs.Complete.{HasEdge}
use Rattle.mirror_model.specs.View.{View}
use Rattle.mirror_model.specs.declared.notes.HeadNote.{HeadNote}
use Rattle.mirror_trees.proofs.BuiltTrees.{added_both}
use Rattle.tlog_mirror.specs.Adding.{with_note, with_notes}
use Rattle.tlog_mirror.specs.Opened.{KeepsOpened, SaysHead}
use Rattle.node_store.specs.Strings.{Strings}
use Rattle.tlog_mirror.specs.Restored.{IsOpenNote, strings_alone}
use Rattle.tlog_mirror.proofs.RestoredMirrors.{open_note}
use Rattle.mirror_files.specs.Loading.{HasUnheld}
use Rattle.mirror_model.proofs.RefusedHeads.{open_heads_are_read}
use Rattle.mirror_files.specs.Opening.{AreOpened, IsFirstNot, OpensAsHead, head_bytes}
use Rattle.mirror_files.proofs.KeptNotes.{edge_moves, edge_moves_back}

-- ---- notes that open

module _ (origin : List ℕ) (keys : List Key) where
  as_note : (note : List ℕ) → OpensAsHead origin keys note → IsOpenNote origin keys note
  as_note note o = open_note note origin keys o.0 o.1

  pub as_head : (note : List ℕ) → IsOpenNote origin keys note → OpensAsHead origin keys note
  as_head note o =
      let read = (open_heads_are_read note origin keys o.size o.root).0 o.is_head in (read.checkpoint, read.is_open)

  pub notes_open : (notes : List (List ℕ)) → All (OpensAsHead origin keys) notes → All (IsOpenNote origin keys) notes
  notes_open notes all = All-weaker (OpensAsHead origin keys) (IsOpenNote origin keys) as_note notes all

  pub still_open : (view : View) (strings : Strings) (listed notes later : List (List ℕ)) →
      view ≡ strings_alone origin strings → notes ≡ listed → later ≡ listed → All (OpensAsHead origin keys) notes →
      All (IsOpenNote view.origin keys) later
  still_open view strings listed notes later made notes_are later_are all =
      subst (λ (v : View). All (IsOpenNote v.origin keys) later) (sym made)
      (subst (All (IsOpenNote origin keys)) (notes_are ∙ sym later_are) (notes_open notes all))

  pub first_closed : (notes : List (List ℕ)) (index : ℕ) (note : List ℕ) →
      IsFirstNot (OpensAsHead origin keys) notes index note → IsFirstNot (IsOpenNote origin keys) notes index note
  first_closed notes index note first = record {
    passed = notes_open (take index notes) first.passed;
    is_there = first.is_there;
    fails = λ o. first.fails (as_head note o);
  }

  pub opened_at : (notes notes' : List (List ℕ)) (heads heads' : List HeadNote) → notes ≡ notes' → heads' ≡ heads →
      AreOpened origin keys notes heads → AreOpened origin keys notes' heads'
  opened_at notes notes' heads heads' same lent opened =
      subst (λ ns. AreOpened origin keys ns heads') same
      (subst (AreOpened origin keys notes) (sym lent) opened)

-- ---- kept tree heads

-- the notes of tree heads
abbrev pub notes_of : List HeadNote → List (List ℕ)
notes_of heads = map head_bytes heads

module _ (digest : List ℕ → List ℕ) (old current new : View) (heads : List HeadNote) (i : ℕ) (h : HeadNote)
    (lt : i < length heads) (at : h ≡ get_or heads i h) (view_is : current ≡ with_notes old (take i (notes_of heads)))
  where
    in_notes : i < length (notes_of heads)
    in_notes = omega (arith, length-map heads head_bytes, lt)

    there : get_or (notes_of heads) i (head_bytes h) ≡ head_bytes h
    there = get_or-map head_bytes heads i h (head_bytes h) lt ∙ ap head_bytes (sym at)

    more : take (i + 1) (notes_of heads) ≡ take i (notes_of heads) ++ head_bytes h ∷ []
    more = take_more (notes_of heads) i (head_bytes h) in_notes
        ∙ ap (λ (x : List ℕ). take i (notes_of heads) ++ x ∷ []) there

    pub head_said : All (SaysHead old.origin) heads → SaysHead current.origin h
    head_said said =
        subst (λ (v : View). SaysHead v.origin h) (sym view_is)
        (All-contains (SaysHead old.origin) heads h said (i, lt, sym at))

    module _ (E : Type 0) (b : Bool) (keeps : KeepsOpened {E = E} digest current (head_bytes h) (Ok b) new) where
      pub head_lacks : b ≡ false → HasUnheld digest old (notes_of heads)
      head_lacks is =
          let k : KeepsOpened {E = E} digest current (head_bytes h) (Ok false) new =
          subst (λ (x : Bool). KeepsOpened {E = E} digest current (head_bytes h) (Ok x) new) is keeps in
          record {
            note = head_bytes h;
            is_listed = (i, in_notes, there);
            lacks = λ e. k.0 (edge_moves_back digest old current (head_bytes h) (take i (notes_of heads)) view_is e);
          }

      kept : b ≡ true → HasEdge digest current (head_bytes h) × (new ≡ with_note current (head_bytes h))
      kept is = subst (λ (x : Bool). KeepsOpened {E = E} digest current (head_bytes h) (Ok x) new) is keeps

      pub head_kept : b ≡ true → new ≡ with_notes old (take (i + 1) (notes_of heads))
      head_kept is =
          (kept is).1 ∙ ap (λ w. with_note w (head_bytes h)) view_is
          ∙ (λ t. record {
            origin = old.origin;
            notes = added_both old.notes (take i (notes_of heads)) (head_bytes h ∷ []) t;
            strings = old.strings;
          })
          ∙ ap (with_notes old) (sym more)

      pub head_edges : b ≡ true → All (HasEdge digest old) (take i (notes_of heads)) →
          All (HasEdge digest old) (take (i + 1) (notes_of heads))
      head_edges is so_far =
          subst (All (HasEdge digest old)) (sym more)
          (All-push (HasEdge digest old) (take i (notes_of heads)) (head_bytes h) so_far
          (edge_moves digest old current (head_bytes h) (take i (notes_of heads)) view_is (kept is).0))

pub heads_kept : (digest : List ℕ → List ℕ) (old new : View) (heads : List HeadNote) (i : ℕ) → length heads ≤ i →
    new ≡ with_notes old (take i (notes_of heads)) → All (HasEdge digest old) (take i (notes_of heads)) →
    (new ≡ with_notes old (notes_of heads)) × All (HasEdge digest old) (notes_of heads)
heads_kept digest old new heads i le is edges =
    let all : take i (notes_of heads) ≡ notes_of heads =
    take_all i (notes_of heads) (omega (arith, length-map heads head_bytes, le)) in
    (is ∙ ap (with_notes old) all, subst (All (HasEdge digest old)) all edges)
