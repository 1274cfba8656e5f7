use Rattle.std.proofs.Common.{◌≡◌, ◌++◌, ◌+◌, drop, length}
use Rattle.tlog_mirror.specs.Branches.{forks_with, marked}
use Rattle.tlog_mirror.proofs.fork_search.push_forks.Given as goal

-- the forks so far, and those with the tree heads from here on, are all forks
abbrev pub invariant-loop-next : goal.invariant-loop-next
invariant-loop-next l = record {
  len : length l.marks ≡ length l.branches;
  forks : l.forks.items ++ forks_with l.at l.small l.marks l.next (drop l.next l.branches)
      ≡ l.fn.forks.items ++ forks_with l.at l.small l.initial.marks (l.at + 1) (drop (l.at + 1) l.branches);
  marks : marked l.at l.marks l.next (drop l.next l.branches)
      ≡ marked l.at l.initial.marks (l.at + 1) (drop (l.at + 1) l.branches);
}
