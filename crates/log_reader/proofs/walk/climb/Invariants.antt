use Rattle.std.proofs.Common.{◌≡◌, ◌-◌, ℕ, List}
use Rattle.log_reader.specs.Holding.{IsReaderOf}
use Rattle.log_reader.proofs.walk.climb.Given as goal

-- the tree is the same
abbrev pub invariant-loop-reader : goal.invariant-loop-reader
invariant-loop-reader g l = record {
  edge : l.reader.edge ≡ l.fn.reader.edge;
  root : l.reader.root ≡ l.fn.reader.root;
  honest : (entries : List (List ℕ)) → IsReaderOf g.H.TreeHash.digest entries l.fn.reader →
      IsReaderOf g.H.TreeHash.digest entries l.reader;
}

abbrev pub decreases-loop-reader : goal.decreases-loop-reader
decreases-loop-reader g l = l.level - l.reader.level
