use Rattle.std.proofs.Common.{◌≡◌, ◌++◌, drop, length}
use Rattle.tlog_mirror.specs.Branches.{all_forks}
use Rattle.tlog_mirror.proofs.fork_search.list_forks.Given as goal

-- the forks so far, and those of the tree heads from here on, are all forks
abbrev pub invariant-loop-at : goal.invariant-loop-at
invariant-loop-at l = record {
  len : length l.marks ≡ length l.branches;
  forks : l.forks.items ++ all_forks l.calm l.at l.marks (drop l.at l.branches) ≡ all_forks l.calm 0 l.fn.marks l.branches;
}
