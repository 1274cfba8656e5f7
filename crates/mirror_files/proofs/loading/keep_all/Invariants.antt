use Rattle.std.proofs.Common.{◌≡◌, map, take, All}
use Rattle.mirror_model.specs.Complete.{HasEdge}
use Rattle.tlog_mirror.specs.Adding.{with_notes}
use Rattle.mirror_files.specs.Opening.{head_bytes}
use Rattle.mirror_files.proofs.loading.keep_all.Given as goal

-- the tree heads so far are kept
abbrev pub invariant-loop-head : goal.invariant-loop-head
invariant-loop-head g l = record {
  view : l.mirror.view ≡ with_notes l.fn.mirror.view (take l.head-index (map head_bytes l.heads));
  edges : All (HasEdge g.H.TreeHash.digest l.fn.mirror.view) (take l.head-index (map head_bytes l.heads));
  remembered : l.mirror.remembered ≡ l.fn.mirror.remembered;
}
