use Rattle.mirror_model.proofs.Examples.{is_forked}
use Rattle.mirror_model.proofs.laws.examples.fork_example.Goals as goal

pub returns : goal.returns
returns c = is_forked
