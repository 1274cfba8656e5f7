use Rattle.mirror_model.proofs.Serving.{served_where_complete}
use Rattle.mirror_model.proofs.OneLists.{serves_truth, serves_one, replies_once, ranges_hash_once}
use Rattle.mirror_model.proofs.laws.views.served_law.Goals as goal

pub returns-clause-one : goal.returns-clause-one
returns-clause-one c = serves_one

pub returns-clause-reply : goal.returns-clause-reply
returns-clause-reply c = replies_once

pub returns-clause-range : goal.returns-clause-range
returns-clause-range c = ranges_hash_once

pub returns-clause-truth : goal.returns-clause-truth
returns-clause-truth c = serves_truth

pub returns-clause-some : goal.returns-clause-some
returns-clause-some c = served_where_complete
