use Rattle.mirror_model.proofs.ViewExamples.{one_entry_is_served}
use Rattle.mirror_model.proofs.laws.examples.served_example.Goals as goal

pub returns : goal.returns
returns c = one_entry_is_served
