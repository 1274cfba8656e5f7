-- A tree head whose note was opened is taken like its bytes.
use Rattle.std.proofs.Common.{◌≡◌, ℕ, List, Bool, true, false, Result, subst, sym}
use Rattle.std.specs.Prelude.{◌↔◌, IsTrue}
use Rattle.signed_note.specs.Keys.{Key}
use Rattle.mirror_model.specs.Answered.{answer_of}
use Rattle.mirror_model.specs.Complete.{HasEdge, HoldsEdge}
use Rattle.mirror_model.specs.Refusals.{IsOpenCheckpoint, JudgesHead}
use Rattle.mirror_model.specs.Steps.{Takes}
use Rattle.mirror_model.specs.View.{View}
use Rattle.mirror_model.specs.declared.fault.TakeFault.{TakeFault}
use Rattle.mirror_model.specs.declared.items.Item.TheVariants.{Head}
use Rattle.mirror_model.specs.declared.notes.HeadNote.{HeadNote}
use Rattle.mirror_model.proofs.HeadNotes.{head_once}
use Rattle.tlog_mirror.specs.Opened.{IsOpenUnder, SaysHead}

module _ (bytes origin : List ℕ) (keys : List Key) (head : HeadNote)
    (opened : IsOpenCheckpoint bytes origin keys head.checkpoint) (bytes_are : head.note.bytes ≡ bytes) where
  -- it is open for the origin that the reader got
  pub open_here : (there : List ℕ) → origin ≡ there → IsOpenUnder there keys head
  open_here there same =
      subst (λ b. IsOpenCheckpoint b there keys head.checkpoint) (sym bytes_are)
      (subst (λ o. IsOpenCheckpoint bytes o keys head.checkpoint) same opened)

module _ (digest : List ℕ → List ℕ) (bytes origin : List ℕ) (keys : List Key) (head : HeadNote)
    (opened : IsOpenCheckpoint bytes origin keys head.checkpoint) (bytes_are : head.note.bytes ≡ bytes) (old : View)
    (same : origin ≡ old.origin) (rows : List (List ℕ)) (result : Result (Unit {0}) TakeFault) where
  pub taken_as_bytes : (new : View) →
      (IsOpenUnder old.origin keys head → Takes digest keys old (Head head.note.bytes rows) (answer_of result) new) →
      Takes digest keys old (Head bytes rows) (answer_of result) new
  taken_as_bytes new takes =
      subst (λ b. Takes digest keys old (Head b rows) (answer_of result) new) bytes_are
      (takes (open_here bytes origin keys head opened bytes_are old.origin same))

  pub judged_as_bytes :
      (IsOpenUnder old.origin keys head → JudgesHead digest old.origin keys head.note.bytes rows result) →
      JudgesHead digest old.origin keys bytes rows result
  judged_as_bytes judges =
      subst (λ b. JudgesHead digest old.origin keys b rows result) bytes_are
      (judges (open_here bytes origin keys head opened bytes_are old.origin same))

-- the right edge of a tree head is held exactly if that of its size and root is
module _ (digest : List ℕ → List ℕ) (v : View) (head : HeadNote) (said : SaysHead v.origin head) (b : Bool)
    (tells : IsTrue b ↔ HoldsEdge digest v.strings head.checkpoint.size head.checkpoint.root) where
  pub edge_is_lacking : b ≡ false → HasEdge digest v head.note.bytes → ⊥
  edge_is_lacking is e =
      let same =
      head_once head.note.bytes v.origin v.origin e.size head.checkpoint.size e.root head.checkpoint.root e.is_head
      said in
      let t : b ≡ true =
      tells.1 (subst (λ n. HoldsEdge digest v.strings n head.checkpoint.root) same.size_is
      (subst (HoldsEdge digest v.strings e.size) same.root_is e.edge)) in
      cc (t, is)
