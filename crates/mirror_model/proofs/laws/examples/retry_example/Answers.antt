use Rattle.mirror_model.proofs.PlayExamples.{spans_plays, retry_counts}
use Rattle.mirror_model.proofs.laws.examples.retry_example.Goals as goal

pub returns-clause-spans : goal.returns-clause-spans
returns-clause-spans c = spans_plays

pub returns-clause-counts : goal.returns-clause-counts
returns-clause-counts c = retry_counts
