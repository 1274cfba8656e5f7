use Rattle.std.proofs.Common.{◌≡◌, [], drop, length, false}
use Rattle.mirror_model.specs.Texts.{fork_line}
use Rattle.tlog_mirror.specs.Branches.{all_forks}
use Rattle.tlog_mirror.proofs.WrittenLines.{IsWritten}
use Rattle.tlog_mirror.proofs.fork_search.write_all.Given as goal

-- the written forks, and those of the tree heads from here on, are all forks
abbrev pub invariant-loop-at : goal.invariant-loop-at
invariant-loop-at g l = record {
  len : length l.marks ≡ length l.branches;
  writes : IsWritten fork_line (g.W.Write.contents l.fn.output) (g.W.Write.contents l.output) [] l.held.items false l.any
      (all_forks l.calm 0 l.fn.marks l.branches) (all_forks l.calm l.at l.marks (drop l.at l.branches));
}
