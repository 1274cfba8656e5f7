use Rattle.mirror_model.proofs.Joining.{two_calls}
use Rattle.mirror_model.proofs.laws.examples.calls_example.Goals as goal

pub returns : goal.returns
returns c = two_calls
