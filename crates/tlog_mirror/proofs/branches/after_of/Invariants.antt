use Rattle.std.proofs.Common.{◌≡◌, ◌≤◌, ◌<◌, ℕ, length, slice_index_or}
use Rattle.std.specs.Prelude.{IsTrue}
use Rattle.tlog_mirror.specs.Forks.{Departs}
use Rattle.tlog_mirror.specs.declared.branches.Branch.{Branch}
use Rattle.tlog_mirror.proofs.branches.after_of.Given as goal

-- the tree head departs from each branch from here on whose tree is held
abbrev pub invariant-loop-at : goal.invariant-loop-at
invariant-loop-at g l =
    (k : ℕ) (one : Branch) → l.at ≤ k → k < length l.before → slice_index_or l.before k one ≡ one →
    IsTrue one.whole → Departs g.H.TreeHash.digest l.store one.head l.head
