use Rattle.mirror_model.proofs.Playing.{none_clashes}
use Rattle.mirror_model.proofs.laws.play.clash_law.Goals as goal

pub returns : goal.returns
returns c = none_clashes
