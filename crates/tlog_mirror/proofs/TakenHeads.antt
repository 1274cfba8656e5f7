-- The take of a tree head: the answer for its note or for its edge rows is the answer for the tree head.
use Rattle.std.proofs.Common.{◌≡◌, ◌≤◌, ℕ, List, [], ◌∷◌, length, map, Result, Ok, Err, inl, inr, refl, sym, ap}
use Rattle.std.proofs.Common.{subst, ◌∙◌}
use Rattle.std.specs.FinSet as set
use Rattle.node_store.specs.Strings.{Strings, Has, HasAll}
use Rattle.node_store.specs.declared.store.AddFault.{AddFault}
use Rattle.node_store.specs.declared.store.AddFault.TheVariants as adding
use Rattle.signed_note.specs.Keys.{Key}
use Rattle.tlog_checkpoint.specs.Grammar.{IsCheckpoint}
use Rattle.tlog_checkpoint.specs.declared.Checkpoint.{Checkpoint}
use Rattle.mirror_model.specs.Answered.{answer_of}
use Rattle.mirror_model.specs.Complete.{HasEdge}
use Rattle.mirror_model.specs.Edge.{edge_strings}
use Rattle.mirror_model.specs.Heads.{IsHead}
use Rattle.mirror_model.specs.Item.{IsGoodHead, HasEdgeRows, row_of, plus}
use Rattle.mirror_model.specs.Refusals.{IsOpenCheckpoint, ReadsHead, JudgesHead}
use Rattle.mirror_model.specs.Steps.{Done, Exhausted, Refused, Answers, Takes, IsBetween}
use Rattle.mirror_model.specs.Strings.{HasClash}
use Rattle.mirror_model.specs.View.{View}
use Rattle.mirror_model.specs.declared.fault.TakeFault.{TakeFault}
use Rattle.mirror_model.specs.declared.fault.TakeFault.TheVariants as taking
use Rattle.mirror_model.specs.declared.items.Item.TheVariants.{Head}
use Rattle.mirror_model.proofs.RefusedHeads.{heads_are_judged}
use Rattle.mirror_model.proofs.StringSets.{has_left, has_right, has_from_listed, held_from_all, clash_within}
use Rattle.std.specs.List.{Contains}
use Rattle.std.proofs.lemmas.List.Elements.{recursion_from_All, All-contains_itself, All-weaker}
use Rattle.tlog_mirror.specs.Adding.{added, taken_of, with_note, with_strings}
use Rattle.mirror_trees.specs.Edges.{JudgesEdge}
use Rattle.tlog_mirror.proofs.TakenItems.{allowed, same_kind, gathered, gathered_short}
use Rattle.mirror_model.specs.Strings.{IsDigest}

-- ---- the note

module _ (note origin : List ℕ) (keys : List Key) (checkpoint : Checkpoint)
    (opened : IsOpenCheckpoint note origin keys checkpoint) where
  is_checkpoint : IsCheckpoint opened.text origin checkpoint.size checkpoint.root checkpoint.extensions
  is_checkpoint =
      subst (λ o. IsCheckpoint opened.text o checkpoint.size checkpoint.root checkpoint.extensions)
      opened.origin_is opened.is.is_checkpoint

  pub open_is_head : IsHead note origin checkpoint.size checkpoint.root
  open_is_head = record {
    text = opened.text;
    lines = opened.lines;
    extensions = checkpoint.extensions;
    is_note = opened.is.is_note;
    is_checkpoint = is_checkpoint;
  }

  pub open_is_good : (digest : List ℕ → List ℕ) (rows : List (List ℕ)) →
      HasEdgeRows digest checkpoint.size checkpoint.root rows → IsGoodHead digest origin keys note rows
  open_is_good digest rows edge = record {
    size = checkpoint.size;
    root = checkpoint.root;
    is_head = record {
      text = opened.text;
      lines = opened.lines;
      extensions = checkpoint.extensions;
      is_note = opened.is.is_note;
      is_checkpoint = is_checkpoint;
      opens = opened.opens;
    };
    has_edge = edge;
  }

  -- the answer for the edge rows of a note that is read is the answer for the tree head
  pub edge_judged : (digest : List ℕ → List ℕ) (rows : List (List ℕ)) (r : Result (Unit {0}) TakeFault) →
      JudgesEdge digest checkpoint.size checkpoint.root rows r → JudgesHead digest origin keys note rows r
  edge_judged digest rows (Ok done) h = open_is_good digest rows h
  edge_judged digest rows (Err (taking.Note fault)) h = absurd h
  edge_judged digest rows (Err (taking.Checkpoint fault)) h = absurd h
  edge_judged digest rows (Err taking.OtherOrigin) h = absurd h
  edge_judged digest rows (Err taking.NoTrustedSignature) h = absurd h
  edge_judged digest rows (Err taking.EdgeCount) h = record { checkpoint = checkpoint; is_open = opened; differs = h }
  edge_judged digest rows (Err taking.EdgeLength) h =
      record { checkpoint = checkpoint; is_open = opened; count_is = h.0; differ = h.1 }
  edge_judged digest rows (Err taking.EdgeMismatch) h =
      record { checkpoint = checkpoint; is_open = opened; lengths_are = h.0; differs = h.1 }
  edge_judged digest rows (Err taking.RowLength) h = absurd h
  edge_judged digest rows (Err taking.BundleShort) h = absurd h
  edge_judged digest rows (Err taking.BundleLong) h = absurd h
  edge_judged digest rows (Err taking.Collision) h = open_is_good digest rows h
  edge_judged digest rows (Err taking.OutOfMemory) h = tt

-- if a note is refused, the tree head is refused
pub note_judged : (digest : List ℕ → List ℕ) (note origin : List ℕ) (keys : List Key) (rows : List (List ℕ))
    (fault : TakeFault) → ReadsHead note origin keys (Err fault) → JudgesHead digest origin keys note rows (Err fault)
note_judged digest note origin keys rows (taking.Note fault) h = h
note_judged digest note origin keys rows (taking.Checkpoint fault) h = h
note_judged digest note origin keys rows taking.OtherOrigin h = h
note_judged digest note origin keys rows taking.NoTrustedSignature h = h
note_judged digest note origin keys rows taking.EdgeCount h = absurd h
note_judged digest note origin keys rows taking.EdgeLength h = absurd h
note_judged digest note origin keys rows taking.EdgeMismatch h = absurd h
note_judged digest note origin keys rows taking.RowLength h = absurd h
note_judged digest note origin keys rows taking.BundleShort h = absurd h
note_judged digest note origin keys rows taking.BundleLong h = absurd h
note_judged digest note origin keys rows taking.Collision h = absurd h
note_judged digest note origin keys rows taking.OutOfMemory h = tt

-- ---- a refusal and the view

module _ (digest : List ℕ → List ℕ) (keys : List Key) (old : View) (note : List ℕ) (rows : List (List ℕ)) where
  refused : (fault : TakeFault) → JudgesHead digest old.origin keys note rows (Err fault) →
      answer_of (Err fault) ≡ Refused → (IsGoodHead digest old.origin keys note rows → ⊥) × (old ≡ old)
  refused fault h is = ((heads_are_judged digest old.origin keys note rows).refused (Err fault) h is, refl)

  -- a tree head that is not taken leaves the view unchanged
  pub fault_takes :
      (fault : TakeFault) → JudgesHead digest old.origin keys note rows (Err fault) →
      (fault ≡ taking.Collision → HasClash digest (set.from_list (edge_strings digest (map row_of rows)))) →
      Takes digest keys old (Head note rows) (answer_of (Err fault)) old
  fault_takes (taking.Note fault) h clash = refused (taking.Note fault) h refl
  fault_takes (taking.Checkpoint fault) h clash = refused (taking.Checkpoint fault) h refl
  fault_takes taking.OtherOrigin h clash = refused taking.OtherOrigin h refl
  fault_takes taking.NoTrustedSignature h clash = refused taking.NoTrustedSignature h refl
  fault_takes taking.EdgeCount h clash = refused taking.EdgeCount h refl
  fault_takes taking.EdgeLength h clash = refused taking.EdgeLength h refl
  fault_takes taking.EdgeMismatch h clash = refused taking.EdgeMismatch h refl
  fault_takes taking.RowLength h clash = absurd h
  fault_takes taking.BundleShort h clash = absurd h
  fault_takes taking.BundleLong h clash = absurd h
  fault_takes taking.Collision h clash = (
    h,
    clash_within digest (set.from_list (edge_strings digest (map row_of rows)))
        (plus digest old (Head note rows)).strings
        (λ q m. has_right old.strings (set.from_list (edge_strings digest (map row_of rows))) q m) (clash refl),
    refl,
  )
  fault_takes taking.OutOfMemory h clash = inl refl

  -- a tree head is taken, or collides with held strings, or memory is refused
  pub head_takes :
      IsGoodHead digest old.origin keys note rows → (strings : Strings) →
      strings ≡ set.from_list (edge_strings digest (map row_of rows)) → (answer : Result (Unit {0}) AddFault)
      (result : Result (Unit {0}) TakeFault) → result ≡ taken_of answer → (new : View) →
      Answers digest old (Unit {0}) (with_note (with_strings old strings) note) (added answer) new →
      Takes digest keys old (Head note rows) (answer_of result) new
  head_takes good strings is answer result taken new h =
      let full : with_note (with_strings old strings) note ≡ plus digest old (Head note rows) =
      λ i. record {
        origin =
            old.origin;
        notes =
            set.union old.notes (set.from_list (note ∷ []));
        strings = set.union old.strings (is i);
      } in
      let kind : answer_of result ≡ added answer = ap answer_of taken ∙ same_kind answer in
      subst (λ a. Takes digest keys old (Head note rows) a new) (sym kind)
      (allowed digest (IsGoodHead digest old.origin keys note rows) (plus digest old (Head note rows)) old
      (added answer) new good
      (subst (λ v. Answers digest old (Unit {0}) v (added answer) new) full h))

  pub head_judged :
      IsGoodHead digest old.origin keys note rows → (answer : Result (Unit {0}) AddFault)
      (result : Result (Unit {0}) TakeFault) → result ≡ taken_of answer →
      JudgesHead digest old.origin keys note rows result
  head_judged good answer result is = subst (JudgesHead digest old.origin keys note rows) (sym is) (at answer)
    where
      at : (answer : Result (Unit {0}) AddFault) → JudgesHead digest old.origin keys note rows (taken_of answer)
      at (Ok done) = good
      at (Err adding.Collision) = good
      at (Err adding.OutOfMemory) = tt

-- ---- strings first, then the note

-- all strings of a list are in the set of the list
listed_held : (v : Strings) (strings : List (List ℕ)) (all : Strings) → all ≡ set.from_list strings →
    HasAll (set.union v all) strings
listed_held v strings all is =
    held_from_all (set.union v all) strings (recursion_from_All (Has (set.union v all)) strings
    (All-weaker (Contains strings) (Has (set.union v all))
    (λ q h. has_right v all q (subst (λ s. Has s q) (sym is) (has_from_listed strings q h))) strings
    (All-contains_itself strings)))

-- the right edge of a tree head is held once its strings are
pub edge_held :
    (digest : List ℕ → List ℕ) (old : View) (note : List ℕ) (size : ℕ) (root : List ℕ) (rows : List (List ℕ))
    (strings : Strings) → IsHead note old.origin size root → HasEdgeRows digest size root rows →
    strings ≡ set.from_list (edge_strings digest (map row_of rows)) → HasEdge digest (with_strings old strings) note
edge_held digest old note size root rows strings said edge is = record {
  size = size;
  root = root;
  is_head = said;
  edge = record {
    rows = rows;
    has_edge = edge;
    are_held = listed_held old.strings (edge_strings digest (map row_of rows)) strings is;
  };
}

module _ (digest : List ℕ → List ℕ) (old : View) (strings : Strings) (note : List ℕ) where
  abbrev most : View
  most = with_note (with_strings old strings) note

  -- if not all strings are added, the note is not added
  pub strings_refused :
      (fault : AddFault) (new : View) →
      Answers digest old (Unit {0}) (with_strings old strings) (added (Err fault)) new →
      Answers digest old (Unit {0}) most (added (Err fault)) new
  strings_refused adding.Collision new h = h
  strings_refused adding.OutOfMemory new h = elim h [
    | inl same ↦ inl same
    | inr m ↦ inr (
      tt,
      m.1,
      record {
        grows = m.2.grows;
        within = record {
          origin_is = m.2.within.origin_is;
          notes_are = λ n held. has_left old.notes (set.from_list (note ∷ [])) n (m.2.within.notes_are n held);
          strings_are = m.2.within.strings_are;
        };
        notes_last = m.2.notes_last;
      },
    )
  ]

  -- if all strings are added, the note is entered
  pub note_entered : (between new : View) → Answers digest old (Unit {0}) (with_strings old strings) Done between →
      new ≡ with_note between note → Answers digest old (Unit {0}) most Done new
  note_entered between new h is = (tt, h.1, is ∙ ap (λ v. with_note v note) h.2)

  -- or memory is refused
  pub note_refused : (between new : View) → Answers digest old (Unit {0}) (with_strings old strings) Done between →
      new ≡ between → Answers digest old (Unit {0}) most Exhausted new
  note_refused between new h is = inr (
    tt,
    h.1,
    subst (IsBetween old most) (sym (is ∙ h.2)) (record {
      grows = record
          { origin_is = refl; notes_are = λ n held. held; strings_are = λ s held. has_left old.strings strings s held };
      within = record {
        origin_is =
            refl;
        notes_are =
            λ n held. has_left old.notes (set.from_list (note ∷ [])) n held;
        strings_are = λ s held. held;
      };
      notes_last = λ n held. inl held;
    }),
  )

-- ---- the take

module _ (digest : List ℕ → List ℕ) (keys : List Key) (old : View) (note : List ℕ) (rows : List (List ℕ))
    (origin : List ℕ) (same : origin ≡ old.origin) where
  -- the note is refused
  pub note_takes : (fault : TakeFault) → ReadsHead note origin keys (Err fault) →
      Takes digest keys old (Head note rows) (answer_of (Err fault)) old
  note_takes fault reads =
      let here : ReadsHead note old.origin keys (Err fault) =
      subst (λ o. ReadsHead note o keys (Err fault)) same reads in
      fault_takes digest keys old note rows fault (note_judged digest note old.origin keys rows fault here)
      (λ is. absurd (subst (λ f. ReadsHead note old.origin keys (Err f)) is here))

  pub note_judges : (fault : TakeFault) → ReadsHead note origin keys (Err fault) →
      JudgesHead digest old.origin keys note rows (Err fault)
  note_judges fault reads =
      note_judged digest note old.origin keys rows fault
      (subst (λ o. ReadsHead note o keys (Err fault)) same reads)

  module _ (checkpoint : Checkpoint) (opened : IsOpenCheckpoint note origin keys checkpoint) where
    here : IsOpenCheckpoint note old.origin keys checkpoint
    here = subst (λ o. IsOpenCheckpoint note o keys checkpoint) same opened

    abbrev edge : List (List ℕ)
    edge = edge_strings digest (map row_of rows)

    pub edge_judges : (r : Result (Unit {0}) TakeFault) → JudgesEdge digest checkpoint.size checkpoint.root rows r →
        JudgesHead digest old.origin keys note rows r
    edge_judges r h = edge_judged note old.origin keys checkpoint here digest rows r h

    pub whole_judges : HasEdgeRows digest checkpoint.size checkpoint.root rows → (answer : Result (Unit {0}) AddFault)
        (result : Result (Unit {0}) TakeFault) → result ≡ taken_of answer →
        JudgesHead digest old.origin keys note rows result
    whole_judges good answer result is =
        head_judged digest keys old note rows (open_is_good note old.origin keys checkpoint here digest rows good) answer
        result is

    -- the edge rows are refused, or collide among themselves
    pub edge_takes :
        (fault : TakeFault) → JudgesEdge digest checkpoint.size checkpoint.root rows (Err fault) → (none : Strings) →
        none ≡ set.empty →
        (◌≡◌ {A = Result (Unit {0}) TakeFault} (Err fault) (Err taking.Collision) →
        HasClash digest (set.union none (set.from_list edge))) →
        Takes digest keys old (Head note rows) (answer_of (Err fault)) old
    edge_takes fault judged none empty clash =
        fault_takes digest keys old note rows fault
        (edge_judged note old.origin keys checkpoint here digest rows (Err fault) judged)
        (λ is. subst (HasClash digest) (gathered none (set.union none (set.from_list edge)) edge edge empty refl refl)
        (clash (ap Err is)))

    module _ (good : HasEdgeRows digest checkpoint.size checkpoint.root rows) (none strings : Strings)
        (empty : none ≡ set.empty) (strings_are : strings ≡ set.union none (set.from_list edge)) where
      abbrev all_are : strings ≡ set.from_list edge
      all_are = gathered none strings edge edge empty strings_are refl

      pub edge_short : IsDigest digest → (entry : List ℕ) → Has strings (0 ∷ entry) → length entry ≤ 65535
      edge_short hash =
          gathered_short digest (Head note rows) hash old.origin keys
          (open_is_good note old.origin keys checkpoint here digest rows good) strings all_are

      module _ (bytes : List ℕ) (bytes_are : bytes ≡ note) where
        pub head_edge : HasEdge digest (with_strings old strings) bytes
        head_edge =
            subst (HasEdge digest (with_strings old strings)) (sym bytes_are)
            (edge_held digest old note checkpoint.size checkpoint.root rows strings
            (open_is_head note old.origin keys checkpoint here) good all_are)

        pub whole_takes :
            (answer : Result (Unit {0}) AddFault) (result : Result (Unit {0}) TakeFault) → result ≡ taken_of answer →
            (new : View) →
            Answers digest old (Unit {0}) (with_note (with_strings old strings) bytes) (added answer) new →
            Takes digest keys old (Head note rows) (answer_of result) new
        whole_takes answer result taken new h =
            head_takes digest keys old note rows
            (open_is_good note old.origin keys checkpoint here digest rows good) strings all_are answer result taken new
            (subst (λ n. Answers digest old (Unit {0}) (with_note (with_strings old strings) n)
            (added answer) new) bytes_are h)
