use Rattle.std.proofs.Common.{◌≡◌, ◌+◌, drop, length}
use Rattle.mirror_model.specs.Texts.{fork_line}
use Rattle.tlog_mirror.specs.Branches.{forks_with, marked}
use Rattle.tlog_mirror.proofs.WrittenLines.{IsWritten}
use Rattle.tlog_mirror.proofs.fork_search.write_forks_of.Given as goal

-- the written forks, and those with the tree heads from here on, are all forks
abbrev pub invariant-loop-next : goal.invariant-loop-next
invariant-loop-next g l = record {
  len : length l.marks ≡ length l.branches;
  writes : IsWritten fork_line (g.W.Write.contents l.fn.output) (g.W.Write.contents l.output) l.fn.held.items l.held.items
      l.before l.any (forks_with l.at l.small l.initial.marks (l.at + 1) (drop (l.at + 1) l.branches))
      (forks_with l.at l.small l.marks l.next (drop l.next l.branches));
  marks : marked l.at l.marks l.next (drop l.next l.branches)
      ≡ marked l.at l.initial.marks (l.at + 1) (drop (l.at + 1) l.branches);
}
