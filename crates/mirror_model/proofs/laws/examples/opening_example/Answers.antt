use Rattle.mirror_model.proofs.ViewExamples.{empty_counts_for_nothing}
use Rattle.mirror_model.proofs.laws.examples.opening_example.Goals as goal

pub returns : goal.returns
returns c = empty_counts_for_nothing
