use Rattle.mirror_model.proofs.TrueItems.{prefixes_serve_same}
use Rattle.mirror_model.proofs.laws.truth.prefix_law.Goals as goal

pub returns : goal.returns
returns c = prefixes_serve_same
