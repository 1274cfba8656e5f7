-- Tree heads are refused exactly if they are not valid, and for only one reason.
use Rattle.std.proofs.Common.{◌≡◌, ◌≢◌, ◌⊎◌, inl, inr, ℕ, ◌*◌, List, length, map, Ok, Err, refl, sym, ap, subst, ◌∙◌}
use Rattle.std.specs.Prelude.{Result}
use Rattle.std.proofs.lemmas.List.{length-map}
use Rattle.signed_note.specs.Keys.{Key}
use Rattle.signed_note.specs.Notes.{SignatureParts, NoteParts, IsNote, Opens}
use Rattle.signed_note.specs.declared.fault.NoteFault.{NoteFault}
use Rattle.signed_note.proofs.OneReading.{notes_are_read}
use Rattle.signed_note.proofs.OneReading as note
use Rattle.tlog_checkpoint.specs.declared.Checkpoint.{Checkpoint}
use Rattle.tlog_checkpoint.specs.declared.fault.CheckpointFault.{CheckpointFault}
use Rattle.tlog_checkpoint.specs.declared.fault.CheckpointFault.TheVariants as reading
use Rattle.tlog_checkpoint.specs.Grammar.{IsCheckpoint}
use Rattle.tlog_checkpoint.specs.Reading.{ReadsCheckpoint}
use Rattle.tlog_checkpoint.proofs.OneAnswer as checkpoint
use Rattle.mirror_model.specs.Edge.{edge_widths, edge_root}
use Rattle.mirror_model.specs.Heads.{IsOpenHead}
use Rattle.mirror_model.specs.Item.{row_of, HasEdgeRows, IsGoodHead}
use Rattle.mirror_model.specs.Steps.{Refused}
use Rattle.mirror_model.specs.Answered.{answer_of}
use Rattle.mirror_model.specs.Refusals.{IsOpenCheckpoint, IsNoNote, ReadsHead, HasEdgeCount, HasEdgeLengths, JudgesHead}
use Rattle.mirror_model.specs.RefusalLaws.{HeadsAreJudged, HeadNotesAreReadOnce, OpenHeadsAreRead}
use Rattle.mirror_model.specs.declared.fault.TakeFault.{TakeFault}
use Rattle.mirror_model.specs.declared.fault.TakeFault.TheVariants as taking
use Rattle.mirror_model.proofs.Refusing.{Taken, not_done, not_clashed, not_exhausted}

-- ---- notes and checkpoints

-- bytes that are refused as a note are not a note
no_note : (bytes text : List ℕ) (lines : List SignatureParts) (fault : NoteFault) → IsNoNote bytes fault →
    IsNote bytes text lines → ⊥
no_note bytes text lines fault refused is =
    let one : Result NoteParts NoteFault = Ok (record { bytes = bytes; text = text; lines = lines }) in
    let other : Result NoteParts NoteFault = Err fault in
    let same : one ≡ other =
    note.one_answer bytes one other (λ e. cc e) (λ e. refused.has_memory (cc e)) (refl, is) refused.refused in
    cc same

same_note_fault : (bytes : List ℕ) (f g : NoteFault) → IsNoNote bytes f → IsNoNote bytes g → f ≡ g
same_note_fault bytes f g p q =
    let one : Result NoteParts NoteFault = Err f in
    let other : Result NoteParts NoteFault = Err g in
    let same : one ≡ other =
    note.one_answer bytes one other (λ e. p.has_memory (cc e)) (λ e. q.has_memory (cc e)) p.refused q.refused in
    cc same

-- a text that is refused as a checkpoint is not a checkpoint
no_checkpoint : (text : List ℕ) (c : Checkpoint) (fault : CheckpointFault) → ReadsCheckpoint text (Err fault) →
    fault ≢ reading.OutOfMemory → ReadsCheckpoint text (Ok c) → ⊥
no_checkpoint text c fault refused memory is =
    let one : Result Checkpoint CheckpointFault = Ok c in
    let other : Result Checkpoint CheckpointFault = Err fault in
    let same : one ≡ other = checkpoint.one_answer text one other (λ e. cc e) (λ e. memory (cc e)) is refused in
    cc same

same_text_fault : (text : List ℕ) (f g : CheckpointFault) → ReadsCheckpoint text (Err f) →
    ReadsCheckpoint text (Err g) → f ≢ reading.OutOfMemory → g ≢ reading.OutOfMemory → f ≡ g
same_text_fault text f g p q no_f no_g =
    let one : Result Checkpoint CheckpointFault = Err f in
    let other : Result Checkpoint CheckpointFault = Err g in
    let same : one ≡ other = checkpoint.one_answer text one other (λ e. no_f (cc e)) (λ e. no_g (cc e)) p q in
    cc same

-- ---- the steps of reading the note of a tree head

module _ (bytes origin : List ℕ) (keys : List Key) where
  abbrev Read : Type 0
  Read = Result Checkpoint TakeFault

  -- the text of the note is that checkpoint
  record AfterText (a : Read) (text : List ℕ) (lines : List SignatureParts) : Type 0 where
    checkpoint : Checkpoint
    is_checkpoint : IsCheckpoint text checkpoint.origin checkpoint.size checkpoint.root checkpoint.extensions
    then :
        ((a ≡ Err taking.OtherOrigin) × (checkpoint.origin ≢ origin))
        ⊎ ((checkpoint.origin ≡ origin)
        × (((a ≡ Err taking.NoTrustedSignature) × (Opens text lines keys → ⊥))
        ⊎ ((a ≡ Ok checkpoint) × Opens text lines keys)))

  -- the text was refused
  record AtText (a : Read) (text : List ℕ) : Type 0 where
    fault : CheckpointFault
    is : a ≡ Err (taking.Checkpoint fault)
    refused : ReadsCheckpoint text (Err fault)
    has_memory : fault ≢ reading.OutOfMemory

  -- the bytes are a note
  record AfterNote (a : Read) : Type 0 where
    text : List ℕ
    lines : List SignatureParts
    is_note : IsNote bytes text lines
    then : AtText a text ⊎ AfterText a text lines

  -- the bytes were refused
  record AtNote (a : Read) : Type 0 where
    fault : NoteFault
    is : a ≡ Err (taking.Note fault)
    refused : IsNoNote bytes fault

  steps : (a : Read) → ReadsHead bytes origin keys a → a ≢ Err taking.OutOfMemory → AtNote a ⊎ AfterNote a
  steps (Ok c) h m =
      inr (record {
        text = h.text;
        lines =
            h.lines;
        is_note =
            h.is.is_note;
        then =
            inr (record
            { checkpoint = c; is_checkpoint = h.is.is_checkpoint; then = inr (h.origin_is, inr (refl, h.opens)) });
      })
  steps (Err (taking.Note fault)) h m = inl (record { fault = fault; is = refl; refused = h })
  steps (Err (taking.Checkpoint fault)) h m =
      inr (record {
        text = h.text;
        lines =
            h.lines;
        is_note =
            h.is_note;
        then = inl (record { fault = fault; is = refl; refused = h.refused; has_memory = h.has_memory });
      })
  steps (Err taking.OtherOrigin) h m =
      inr (record {
        text = h.text;
        lines =
            h.lines;
        is_note =
            h.is.is_note;
        then =
            inr (record {
              checkpoint = h.checkpoint;
              is_checkpoint = h.is.is_checkpoint;
              then = inl (refl, h.differs);
            });
      })
  steps (Err taking.NoTrustedSignature) h m =
      inr (record {
        text = h.text;
        lines =
            h.lines;
        is_note =
            h.is.is_note;
        then =
            inr (record {
              checkpoint =
                  h.checkpoint;
              is_checkpoint = h.is.is_checkpoint;
              then = inr (h.origin_is, inl (refl, h.closed));
            });
      })
  steps (Err taking.EdgeCount) h m = absurd h
  steps (Err taking.EdgeLength) h m = absurd h
  steps (Err taking.EdgeMismatch) h m = absurd h
  steps (Err taking.RowLength) h m = absurd h
  steps (Err taking.BundleShort) h m = absurd h
  steps (Err taking.BundleLong) h m = absurd h
  steps (Err taking.Collision) h m = absurd h
  steps (Err taking.OutOfMemory) h m = absurd (m refl)

  module _ (a b : Read) where
    -- two answers for the same text and lines are equal
    same_after_text : (text : List ℕ) (lines : List SignatureParts) → AfterText a text lines → AfterText b text lines →
        a ≡ b
    same_after_text text lines p q =
        let same : p.checkpoint ≡ q.checkpoint =
        checkpoint.one_reading text p.checkpoint q.checkpoint p.is_checkpoint q.is_checkpoint in
        let origins : p.checkpoint.origin ≡ q.checkpoint.origin = ap (λ (c : Checkpoint). c.origin) same in
        elim p.then [
          | inl x ↦ elim q.then [ inl y ↦ x.0 ∙ sym y.0 | inr y ↦ absurd (x.1 (origins ∙ y.0)) ]
          | inr x ↦ elim q.then [
            | inl y ↦ absurd (y.1 (sym origins ∙ x.0))
            | inr y ↦ elim x.1 [
              | inl u ↦ elim y.1 [ inl v ↦ u.0 ∙ sym v.0 | inr v ↦ absurd (u.1 v.1) ]
              | inr u ↦ elim y.1 [ inl v ↦ absurd (v.1 u.1) | inr v ↦ u.0 ∙ ap Ok same ∙ sym v.0 ]
            ]
          ]
        ]

    same_text : (text : List ℕ) (lines : List SignatureParts) → AtText a text ⊎ AfterText a text lines →
        AtText b text ⊎ AfterText b text lines → a ≡ b
    same_text text lines (inl p) (inl q) =
        p.is ∙ ap (λ f. Err (taking.Checkpoint f))
        (same_text_fault text p.fault q.fault p.refused q.refused p.has_memory q.has_memory) ∙ sym q.is
    same_text text lines (inl p) (inr q) =
        absurd (no_checkpoint text q.checkpoint p.fault p.refused p.has_memory q.is_checkpoint)
    same_text text lines (inr p) (inl q) =
        absurd (no_checkpoint text p.checkpoint q.fault q.refused q.has_memory p.is_checkpoint)
    same_text text lines (inr p) (inr q) = same_after_text text lines p q

    same_note : AtNote a ⊎ AfterNote a → AtNote b ⊎ AfterNote b → a ≡ b
    same_note (inl p) (inl q) =
        p.is ∙ ap (λ f. Err (taking.Note f)) (same_note_fault bytes p.fault q.fault p.refused q.refused) ∙ sym q.is
    same_note (inl p) (inr q) = absurd (no_note bytes q.text q.lines p.fault p.refused q.is_note)
    same_note (inr p) (inl q) = absurd (no_note bytes p.text p.lines q.fault q.refused p.is_note)
    same_note (inr p) (inr q) =
        let same = notes_are_read bytes p.text q.text p.lines q.lines p.is_note q.is_note in
        let there : AtText b p.text ⊎ AfterText b p.text p.lines =
        subst (λ t. AtText b t ⊎ AfterText b t p.lines) (sym same.0)
        (subst (λ l. AtText b q.text ⊎ AfterText b q.text l) (sym same.1) q.then) in
        same_text p.text p.lines p.then there

pub head_notes_are_read_once : HeadNotesAreReadOnce
head_notes_are_read_once bytes origin keys a b p q no_a no_b =
    same_note bytes origin keys a b (steps bytes origin keys a p no_a) (steps bytes origin keys b q no_b)

-- ---- reading an open tree head

pub open_heads_are_read : OpenHeadsAreRead
open_heads_are_read bytes origin keys size root = (
  λ h. record {
    checkpoint = record { origin = origin; size = size; root = root; extensions = h.extensions };
    is_open =
        record {
          text =
              h.text;
          lines =
              h.lines;
          is =
              record { is_note = h.is_note; is_checkpoint = h.is_checkpoint };
          origin_is = refl;
          opens = h.opens;
        };
    size_is = refl;
    root_is = refl;
  },
  λ h. open_head bytes origin keys h.checkpoint size root h.size_is h.root_is h.is_open,
)
  where
    open_head : (bytes origin : List ℕ) (keys : List Key) (c : Checkpoint) (size : ℕ) (root : List ℕ) → c.size ≡ size →
        c.root ≡ root → IsOpenCheckpoint bytes origin keys c → IsOpenHead bytes origin keys size root
    open_head bytes origin keys c size root s r h = record {
      text = h.text;
      lines = h.lines;
      extensions = c.extensions;
      is_note = h.is.is_note;
      is_checkpoint =
          subst (λ o. IsCheckpoint h.text o size root c.extensions) h.origin_is
          (subst (λ n. IsCheckpoint h.text c.origin n root c.extensions) s
          (subst (λ x. IsCheckpoint h.text c.origin c.size x c.extensions) r h.is.is_checkpoint));
      opens = h.opens;
    }

-- ---- taking a tree head

module _ (digest : List ℕ → List ℕ) (origin : List ℕ) (keys : List Key) (bytes : List ℕ) (rows : List (List ℕ)) where
  -- the edge rows were refused
  abbrev EdgeStep : Taken → Checkpoint → Type 0
  EdgeStep a c =
      ((a ≡ Err taking.EdgeCount) × (HasEdgeCount c.size rows → ⊥))
      ⊎ (HasEdgeCount c.size rows
      × (((a ≡ Err taking.EdgeLength) × (HasEdgeLengths c.size rows → ⊥))
      ⊎ (HasEdgeLengths c.size rows × (a ≡ Err taking.EdgeMismatch)
      × (edge_root digest (map row_of rows) ≢ c.root))))

  -- a refusal is one of the note or one of the edge rows
  record AtHead (a : Taken) : Type 0 where
    fault : TakeFault
    is : a ≡ Err fault
    memory : fault ≢ taking.OutOfMemory
    reads : ReadsHead bytes origin keys (Err fault)

  record AtEdge (a : Taken) : Type 0 where
    checkpoint : Checkpoint
    is_open : IsOpenCheckpoint bytes origin keys checkpoint
    step : EdgeStep a checkpoint

  same_count : (size : ℕ) → HasEdgeLengths size rows → HasEdgeCount size rows
  same_count size h = sym (length-map rows length) ∙ ap length h ∙ length-map (edge_widths size) (λ width. 32 * width)

  head_refused : (a : Taken) → JudgesHead digest origin keys bytes rows a → answer_of a ≡ Refused → AtHead a ⊎ AtEdge a
  head_refused (Ok done) h e = absurd (not_done done e)
  head_refused (Err (taking.Note fault)) h e =
      inl (record { fault = taking.Note fault; is = refl; memory = λ m. cc m; reads = h })
  head_refused (Err (taking.Checkpoint fault)) h e =
      inl (record { fault = taking.Checkpoint fault; is = refl; memory = λ m. cc m; reads = h })
  head_refused (Err taking.OtherOrigin) h e =
      inl (record { fault = taking.OtherOrigin; is = refl; memory = λ m. cc m; reads = h })
  head_refused (Err taking.NoTrustedSignature) h e =
      inl (record { fault = taking.NoTrustedSignature; is = refl; memory = λ m. cc m; reads = h })
  head_refused (Err taking.EdgeCount) h e =
      inr (record { checkpoint = h.checkpoint; is_open = h.is_open; step = inl (refl, h.differs) })
  head_refused (Err taking.EdgeLength) h e =
      inr (record { checkpoint = h.checkpoint; is_open = h.is_open; step = inr (h.count_is, inl (refl, h.differ)) })
  head_refused (Err taking.EdgeMismatch) h e =
      inr (record {
        checkpoint =
            h.checkpoint;
        is_open =
            h.is_open;
        step = inr (same_count h.checkpoint.size h.lengths_are, inr (h.lengths_are, refl, h.differs));
      })
  head_refused (Err taking.RowLength) h e = absurd h
  head_refused (Err taking.BundleShort) h e = absurd h
  head_refused (Err taking.BundleLong) h e = absurd h
  head_refused (Err taking.Collision) h e = absurd (not_clashed e)
  head_refused (Err taking.OutOfMemory) h e = absurd (not_exhausted e)

  head_taken : (a : Taken) → JudgesHead digest origin keys bytes rows a → answer_of a ≢ Refused →
      a ≢ Err taking.OutOfMemory → IsGoodHead digest origin keys bytes rows
  head_taken (Ok done) h no_refusal memory = h
  head_taken (Err (taking.Note fault)) h no_refusal memory = absurd (no_refusal refl)
  head_taken (Err (taking.Checkpoint fault)) h no_refusal memory = absurd (no_refusal refl)
  head_taken (Err taking.OtherOrigin) h no_refusal memory = absurd (no_refusal refl)
  head_taken (Err taking.NoTrustedSignature) h no_refusal memory = absurd (no_refusal refl)
  head_taken (Err taking.EdgeCount) h no_refusal memory = absurd (no_refusal refl)
  head_taken (Err taking.EdgeLength) h no_refusal memory = absurd (no_refusal refl)
  head_taken (Err taking.EdgeMismatch) h no_refusal memory = absurd (no_refusal refl)
  head_taken (Err taking.RowLength) h no_refusal memory = absurd h
  head_taken (Err taking.BundleShort) h no_refusal memory = absurd h
  head_taken (Err taking.BundleLong) h no_refusal memory = absurd h
  head_taken (Err taking.Collision) h no_refusal memory = h
  head_taken (Err taking.OutOfMemory) h no_refusal memory = absurd (memory refl)

  -- a note that was read is not refused
  read_or_refused : (c : Checkpoint) (fault : TakeFault) → IsOpenCheckpoint bytes origin keys c →
      ReadsHead bytes origin keys (Err fault) → fault ≢ taking.OutOfMemory → ⊥
  read_or_refused c fault is refused memory =
      let one : Result Checkpoint TakeFault = Ok c in
      let other : Result Checkpoint TakeFault = Err fault in
      let same : one ≡ other =
      head_notes_are_read_once bytes origin keys one other is refused (λ e. cc e) (λ e. memory (cc e)) in
      cc same

  same_open : (c d : Checkpoint) → IsOpenCheckpoint bytes origin keys c → IsOpenCheckpoint bytes origin keys d → c ≡ d
  same_open c d p q =
      let one : Result Checkpoint TakeFault = Ok c in
      let other : Result Checkpoint TakeFault = Ok d in
      let same : one ≡ other = head_notes_are_read_once bytes origin keys one other p q (λ e. cc e) (λ e. cc e) in
      cc same

  same_edge : (a b : Taken) (c : Checkpoint) → EdgeStep a c → EdgeStep b c → a ≡ b
  same_edge a b c (inl p) (inl q) = p.0 ∙ sym q.0
  same_edge a b c (inl p) (inr q) = absurd (p.1 q.0)
  same_edge a b c (inr p) (inl q) = absurd (q.1 p.0)
  same_edge a b c (inr p) (inr q) = elim p.1 [
    | inl x ↦ elim q.1 [ inl y ↦ x.0 ∙ sym y.0 | inr y ↦ absurd (x.1 y.0) ]
    | inr x ↦ elim q.1 [ inl y ↦ absurd (y.1 x.0) | inr y ↦ x.1 ∙ sym y.1 ]
  ]

  one_refusal : (a b : Taken) → AtHead a ⊎ AtEdge a → AtHead b ⊎ AtEdge b → a ≡ b
  one_refusal a b (inl p) (inl q) =
      let one : Result Checkpoint TakeFault = Err p.fault in
      let other : Result Checkpoint TakeFault = Err q.fault in
      let same : one ≡ other =
      head_notes_are_read_once bytes origin keys one other p.reads q.reads (λ e. p.memory (cc e))
      (λ e. q.memory (cc e)) in
      let faults : p.fault ≡ q.fault = cc same in
      p.is ∙ ap Err faults ∙ sym q.is
  one_refusal a b (inl p) (inr q) = absurd (read_or_refused q.checkpoint p.fault q.is_open p.reads p.memory)
  one_refusal a b (inr p) (inl q) = absurd (read_or_refused p.checkpoint q.fault p.is_open q.reads q.memory)
  one_refusal a b (inr p) (inr q) =
      same_edge a b p.checkpoint p.step
      (subst (EdgeStep b) (sym (same_open p.checkpoint q.checkpoint p.is_open q.is_open)) q.step)

  -- the checkpoint of a valid tree head, and its rows
  good_edge : (c : Checkpoint) → IsOpenCheckpoint bytes origin keys c → IsGoodHead digest origin keys bytes rows →
      HasEdgeRows digest c.size c.root rows
  good_edge c is good =
      let h = (open_heads_are_read bytes origin keys good.size good.root).0 good.is_head in
      let same = same_open h.checkpoint c h.is_open is in
      let sizes : good.size ≡ c.size = sym h.size_is ∙ ap (λ (x : Checkpoint). x.size) same in
      let roots : good.root ≡ c.root = sym h.root_is ∙ ap (λ (x : Checkpoint). x.root) same in
      subst (λ n. HasEdgeRows digest n c.root rows) sizes
      (subst (λ r. HasEdgeRows digest good.size r rows) roots good.has_edge)

  refused_edge : (a : Taken) (c : Checkpoint) → EdgeStep a c → HasEdgeRows digest c.size c.root rows → ⊥
  refused_edge a c (inl p) h = p.1 (same_count c.size h.widths)
  refused_edge a c (inr p) h = elim p.1 [ inl x ↦ x.1 h.widths | inr x ↦ x.2 h.root_is ]

  not_good : (a : Taken) → AtHead a ⊎ AtEdge a → IsGoodHead digest origin keys bytes rows → ⊥
  not_good a (inl p) good =
      let h = (open_heads_are_read bytes origin keys good.size good.root).0 good.is_head in
      read_or_refused h.checkpoint p.fault h.is_open p.reads p.memory
  not_good a (inr p) good = refused_edge a p.checkpoint p.step (good_edge p.checkpoint p.is_open good)

pub heads_are_judged : HeadsAreJudged
heads_are_judged digest origin keys bytes rows = record {
  refused =
      λ a h e good. not_good digest origin keys bytes rows a (head_refused digest origin keys bytes rows a h e) good;
  taken = head_taken digest origin keys bytes rows;
  once = λ a b p q e f. one_refusal digest origin keys bytes rows a b (head_refused digest origin keys bytes rows a p e)
      (head_refused digest origin keys bytes rows b q f);
}
