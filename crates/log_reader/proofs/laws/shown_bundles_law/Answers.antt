use Rattle.log_reader.proofs.ShownBundles.{shown_bundles_are_true}
use Rattle.log_reader.proofs.laws.shown_bundles_law.Goals as goal

pub returns : goal.returns
returns c = shown_bundles_are_true
