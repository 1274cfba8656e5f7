use Rattle.std.proofs.Common.{◌≡◌, ◌+◌, take}
use Rattle.log_reader.specs.FullRows.{HasNodes}
use Rattle.log_reader.proofs.full_row.FullRow.new.Given as goal

-- the row and its first nodes
abbrev pub invariant-loop-k : goal.invariant-loop-k
invariant-loop-k g l = record {
  row : take 256 l.hashes.items ≡ l.fn.row.items;
  nodes : HasNodes g.H.TreeHash.digest (256 + l.k) l.hashes.items;
}
