use Rattle.tlog_tiles.proofs.BundleLemmas.{answer_one}
use Rattle.tlog_tiles.proofs.laws.one_bundle_law.Goals as goal

pub returns : goal.returns
returns c = answer_one
