use Rattle.std.proofs.Common.{◌≡◌, take, map}
use Rattle.tlog_tiles.specs.Bundle.{bundle_text}
use Rattle.tlog_tiles.proofs.bundle.write_bundle.Given as goal

-- the entries up to here are written
abbrev pub invariant-loop-entry : goal.invariant-loop-entry
invariant-loop-entry l = l.bytes.items ≡ bundle_text (map (λ e. e.now) (take l.entry-index l.entries))
