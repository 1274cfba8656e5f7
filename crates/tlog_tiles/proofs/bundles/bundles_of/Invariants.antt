use Rattle.std.proofs.Common.{◌≡◌, map, take}
use Rattle.tlog_tiles.specs.Bundle.{bundle_text}
use Rattle.tlog_tiles.specs.Layout.{ends_of}
use Rattle.tlog_tiles.proofs.bundles.bundles_of.Given as goal

-- the entries so far
abbrev pub invariant-loop-entry : goal.invariant-loop-entry
invariant-loop-entry l = record {
  text : l.text.items ≡ bundle_text (map (λ e. e.now) (take l.entry-index l.entries));
  ends : l.ends.items ≡ ends_of 0 (map (λ e. e.now) (take l.entry-index l.entries));
}
