use Rattle.mirror_model.proofs.Origins.{ex_is_origin}
use Rattle.mirror_tests.proofs.client.pulls.pull_list.Goals as goal

pub new-requires-clause-origin : goal.new-requires-clause-origin
new-requires-clause-origin c d = ex_is_origin
