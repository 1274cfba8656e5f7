use Rattle.std.proofs.Common.{◌≤◌, ℕ, length}
use Rattle.tlog_tiles.specs.declared.paths.TheConstants.{MAX_INDEX}
use Rattle.tlog_tiles.specs.Path.{IsIndex}
use Rattle.tlog_tiles.proofs.IndexLemmas.{IsIndexAfter}
use Rattle.tlog_tiles.proofs.paths.reading.index_of.Given as goal

-- the text is an index exactly if the rest of it is the rest of an index after the groups that were read
abbrev pub invariant-loop-group : goal.invariant-loop-group
invariant-loop-group l = record {
  fits : l.index ≤ MAX_INDEX;
  found : (n : ℕ) → IsIndexAfter l.index l.rest n → IsIndex l.text n;
  others : (n : ℕ) → IsIndex l.text n → IsIndexAfter l.index l.rest n;
}

abbrev pub decreases-loop-group : goal.decreases-loop-group
decreases-loop-group l = length l.rest
