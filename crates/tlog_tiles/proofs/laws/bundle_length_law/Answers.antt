use Rattle.tlog_tiles.proofs.BundleLemmas.{bundles_are_short}
use Rattle.tlog_tiles.proofs.laws.bundle_length_law.Goals as goal

pub returns : goal.returns
returns c = bundles_are_short
