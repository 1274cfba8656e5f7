use Rattle.mirror_client.proofs.Waiting.{within}
use Rattle.mirror_client.proofs.laws.waits_law.Goals as goal

pub returns : goal.returns
returns c = within
