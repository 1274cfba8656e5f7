-- Notes that are kept.
use Rattle.std.proofs.Common.{◌≡◌, inl, inr, ℕ, ◌+◌, ◌<◌, Bool, true, List, [], ◌∷◌, length}
use Rattle.std.proofs.Common.{take, get_or, All, Ok, Err, Bor, sym, ap, subst, ◌∙◌, arith}
use Rattle.std.specs.Prelude.{◌↔◌, IsTrue}
use Rattle.std.proofs.lemmas.List.{take_all}
use Rattle.std.proofs.lemmas.List.{length-take-le}
use Rattle.std.proofs.lemmas.Bool.{cases_lt}
use Rattle.std.proofs.lemmas.List.Elements.{All-contains}
use Rattle.mirror_model.specs.Complete.{HasEdge}
use Rattle.mirror_model.specs.View.{View}
use Rattle.mirror_trees.proofs.BuiltTrees.{added_both, added_none}
use Rattle.tlog_mirror.specs.Adding.{with_note, with_notes}
use Rattle.std.specs.Prelude.{Option, Some, None, IfSome}
use Rattle.signed_note.specs.Keys.{Key}
use Rattle.tlog_mirror.specs.Restored.{IsOpenNote, KeepsHeld}
use Rattle.tlog_mirror.specs.declared.fault.RestoreFault.{RestoreFault}
use Rattle.tlog_mirror.specs.declared.fault.RestoreFault.TheVariants.{BadHead}
use Rattle.mirror_files.specs.declared.load_fault.LoadFault.{LoadFault}
use Rattle.mirror_files.specs.declared.load_fault.LoadFault.TheVariants.{ReadFault, OutOfMemory}
use Rattle.mirror_files.proofs.ListedItems.{all_more, bytes_of, is_item, more_taken}
use Rattle.byte_streams.specs.declared.fault.StreamFault.{StreamFault}
use Rattle.byte_streams.specs.declared.fault.StreamFault.TheVariants as streams
use Rattle.mirror_files.specs.LoadSteps.{stream_fault_of}
use Rattle.mirror_files.specs.Loading.{Loads}

-- no note yet
pub noted_none : (v : View) → v ≡ with_notes v []
noted_none v i = record { origin = v.origin; notes = added_none v.notes i; strings = v.strings }

module _ (items : List (Bor (List ℕ))) (i : ℕ) (d : Bor (List ℕ)) (lt : i < length items) where
  abbrev item : List ℕ
  item = (get_or items i d).now

  pub noted_more : (v between new : View) → between ≡ with_notes v (take i (bytes_of items)) →
      new ≡ with_note between item → new ≡ with_notes v (take (i + 1) (bytes_of items))
  noted_more v between new before is =
      is ∙ ap (λ w. with_note w item) before
      ∙ (λ t. record {
        origin = v.origin;
        notes = added_both v.notes (take i (bytes_of items)) (item ∷ []) t;
        strings = v.strings;
      })
      ∙ ap (with_notes v) (sym (more_taken (λ (x : List ℕ). x) items i d lt))

-- the right edge of a note is held over the same strings
pub edge_moves : (digest : List ℕ → List ℕ) (v w : View) (note : List ℕ) (notes : List (List ℕ)) →
    w ≡ with_notes v notes → HasEdge digest w note → HasEdge digest v note
edge_moves digest v w note notes is e =
    let there : HasEdge digest (with_notes v notes) note = subst (λ (x : View). HasEdge digest x note) is e in
    record {
      size = there.size;
      root = there.root;
      is_head = there.is_head;
      edge = record { rows = there.edge.rows; has_edge = there.edge.has_edge; are_held = there.edge.are_held };
    }

pub edge_moves_back : (digest : List ℕ → List ℕ) (v w : View) (note : List ℕ) (notes : List (List ℕ)) →
    w ≡ with_notes v notes → HasEdge digest v note → HasEdge digest w note
edge_moves_back digest v w note notes is e =
    subst (λ (x : View). HasEdge digest x note) (sym is)
    (record {
      size = e.size;
      root = e.root;
      is_head = e.is_head;
      edge = record { rows = e.edge.rows; has_edge = e.edge.has_edge; are_held = e.edge.are_held };
    })

-- ---- kept notes

module _ (digest : List ℕ → List ℕ) (old current new : View) (keys : List Key) (items : List (Bor (List ℕ))) (i : ℕ)
    (d : Bor (List ℕ)) (lt : i < length items) (view_is : current ≡ with_notes old (take i (bytes_of items))) where
  abbrev note : List ℕ
  note = (get_or items i d).now

  pub never_bad : All (IsOpenNote old.origin keys) (bytes_of items) → (fault : RestoreFault) →
      KeepsHeld digest current keys note (Err fault) new → fault ≡ BadHead → ⊥
  never_bad opened fault h is =
      let there : KeepsHeld digest current keys note (Err BadHead) new =
      subst (λ f. KeepsHeld digest current keys note (Err f) new) is h in
      there.0 (subst (λ (v : View). IsOpenNote v.origin keys note) (sym view_is) (All-contains
      (IsOpenNote old.origin keys) (bytes_of items) note opened (is_item (λ (x : List ℕ). x) items i d lt)))

  pub kept_view : KeepsHeld digest current keys note (Ok tt) new → new ≡ with_notes old (take (i + 1) (bytes_of items))
  kept_view h = noted_more items i d lt old current new view_is h.2

  pub kept_edges : KeepsHeld digest current keys note (Ok tt) new → All (HasEdge digest old) (take i (bytes_of items)) →
      All (HasEdge digest old) (take (i + 1) (bytes_of items))
  kept_edges h so_far = all_more (λ (x : List ℕ). x) items i d lt (HasEdge digest old) so_far
      (edge_moves digest old current note (take i (bytes_of items)) view_is h.1)

-- ---- all bytes of a reader

pub all_given : (given : Option (List ℕ)) (P : List ℕ → Type 0) (bytes slice : List ℕ) (most : ℕ) (b : Bool) →
    slice ≡ bytes → IsTrue b ↔ (length slice < most) → b ≡ true → IfSome given (λ input. bytes ≡ take most input) →
    P slice → IfSome given P
all_given None P bytes slice most b same tells below is p = tt
all_given (Some input) P bytes slice most b same tells below is p =
    elim (cases_lt (length input) most) [
      | inl fewer ↦ subst P (same ∙ is ∙ take_all most input (omega (arith, fewer))) p
      | inr above ↦ absurd (
          let len : length (take most input) ≡ most = length-take-le most input above in
          let n : length slice ≡ length (take most input) = ap length (same ∙ is) in
          let lt : length slice < most = tells.0 below in
          omega (arith, len, n, lt)
          )
    ]

-- a reader that fails says nothing about the bytes
pub none_given : (given : Option (List ℕ)) (digest : List ℕ → List ℕ) (origin : List ℕ)
    (keys : List Key) (fault : StreamFault) (answer : LoadFault) → answer ≡ stream_fault_of fault →
    IfSome given (λ bytes. Loads digest origin keys bytes (Err answer))
none_given None digest origin keys fault answer is = tt
none_given (Some bytes) digest origin keys fault answer is =
    subst (λ a. Loads digest origin keys bytes (Err a)) (sym is) (unread fault)
  where
    unread : (fault : StreamFault) → Loads digest origin keys bytes (Err (stream_fault_of fault))
    unread streams.ReadFault = tt
    unread streams.WriteFault = tt
    unread streams.OutOfMemory = tt
