use Rattle.std.proofs.Common.{◌≡◌, map, take, All}
use Rattle.mirror_model.specs.Complete.{HasEdge}
use Rattle.tlog_mirror.specs.Adding.{with_notes}
use Rattle.mirror_files.proofs.refused.first_unheld.Given as goal

-- the notes so far are kept
abbrev pub invariant-loop-i : goal.invariant-loop-i
invariant-loop-i g l = record {
  view : l.mirror.view ≡ with_notes l.fn.mirror.view (take l.i (map (λ n. n.now) l.notes));
  edges : All (HasEdge g.H.TreeHash.digest l.fn.mirror.view) (take l.i (map (λ n. n.now) l.notes));
}
