use Rattle.std.proofs.Common.{◌-◌, ◌≤◌, List, ℕ}
use Rattle.mirror_trees.specs.Tops.{IsListOf}
use Rattle.program_copies.specs.Served.{WritesAll}
use Rattle.program_copies.proofs.served.write_served.Given as goal

-- the entries up to that number were written
abbrev pub invariant-loop-at : goal.invariant-loop-at
invariant-loop-at g l = record {
  low : l.range.from ≤ l.at;
  high : l.at ≤ l.range.to;
  written : (entries : List (List ℕ)) → IsListOf g.H.TreeHash.digest l.top entries →
      WritesAll entries l.range.base64 l.range.from l.at (g.W.Write.contents l.fn.output) (g.W.Write.contents l.output);
}

abbrev pub decreases-loop-at : goal.decreases-loop-at
decreases-loop-at g l = l.range.to - l.at
