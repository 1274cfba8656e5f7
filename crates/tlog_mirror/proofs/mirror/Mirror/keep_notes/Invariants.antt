use Rattle.std.proofs.Common.{◌≡◌, All}
use Rattle.mirror_model.specs.Complete.{HasEdge}
use Rattle.mirror_model.specs.Heads.{IsHead}
use Rattle.tlog_mirror.specs.Adding.{with_notes}
use Rattle.tlog_mirror.specs.Kept.{note_bytes}
use Rattle.tlog_mirror.proofs.MergedMirrors.{first_notes}
use Rattle.tlog_mirror.proofs.mirror.Mirror.keep_notes.Given as goal

-- the notes so far are there
abbrev pub invariant-loop-kept : goal.invariant-loop-kept
invariant-loop-kept g l = record {
  view : l.self.view ≡ with_notes l.fn.self.view (first_notes l.kept-index l.notes);
  remembered : l.self.remembered ≡ l.fn.self.remembered;
  said : All (λ k. IsHead (note_bytes k) l.fn.self.view.origin k.size k.root) l.notes;
  edges : All (λ k. HasEdge g.H.TreeHash.digest l.fn.self.view (note_bytes k)) l.notes;
}
