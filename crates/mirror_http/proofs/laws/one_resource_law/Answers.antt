use Rattle.mirror_http.proofs.OneResource.{one_resource}
use Rattle.mirror_http.proofs.laws.one_resource_law.Goals as goal

pub returns : goal.returns
returns c = one_resource
