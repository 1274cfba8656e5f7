-- A note is at most one tree head.
use Rattle.std.proofs.Common.{◌≡◌, ℕ, List, sym, ap, subst}
use Rattle.signed_note.specs.Keys.{Key}
use Rattle.signed_note.proofs.OneReading.{notes_are_read}
use Rattle.tlog_checkpoint.specs.declared.Checkpoint.{Checkpoint}
use Rattle.tlog_checkpoint.specs.Grammar.{IsCheckpoint}
use Rattle.tlog_checkpoint.proofs.OneAnswer.{one_reading}
use Rattle.mirror_model.specs.HeadLaws.{NoteIsOneHead}
use Rattle.mirror_model.specs.Item.{HasEdgeRows}
use Rattle.mirror_model.specs.LawfulLaws.{HeadsHaveEdges}
use Rattle.mirror_model.specs.Heads.{IsHead, IsOpenHead}

pub head_once : NoteIsOneHead
head_once note origin origin' size size' root root' p q =
    let texts = (notes_are_read note p.text q.text p.lines q.lines p.is_note q.is_note).0 in
    let a : Checkpoint = record { origin = origin; size = size; root = root; extensions = p.extensions } in
    let b : Checkpoint = record { origin = origin'; size = size'; root = root'; extensions = q.extensions } in
    let same : a ≡ b =
    one_reading p.text a b p.is_checkpoint
    (subst (λ t. IsCheckpoint t origin' size' root' q.extensions) (sym texts) q.is_checkpoint) in
    record {
      origin_is =
          ap (λ (c : Checkpoint). c.origin) same;
      size_is =
          ap (λ (c : Checkpoint). c.size) same;
      root_is = ap (λ (c : Checkpoint). c.root) same;
    }

-- an open tree head is a tree head
pub head_of : (note origin : List ℕ) (keys : List Key) (size : ℕ) (root : List ℕ) →
    IsOpenHead note origin keys size root → IsHead note origin size root
head_of note origin keys size root h = record {
  text = h.text;
  lines = h.lines;
  extensions = h.extensions;
  is_note = h.is_note;
  is_checkpoint = h.is_checkpoint;
}

pub heads_have_edges : HeadsHaveEdges
heads_have_edges digest v lawful size root head =
    let e = lawful.edges head.note head.holds.is_held in
    let same = head_once head.note v.origin v.origin e.size size e.root root e.is_head head.holds.is_head in
    record {
      rows = e.edge.rows;
      has_edge =
          subst (λ n. HasEdgeRows digest n root e.edge.rows) same.size_is
          (subst (λ r. HasEdgeRows digest e.size r e.edge.rows) same.root_is e.edge.has_edge);
      are_held = e.edge.are_held;
    }
