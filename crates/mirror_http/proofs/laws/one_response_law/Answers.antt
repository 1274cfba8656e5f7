use Rattle.mirror_http.proofs.OneResponse.{equal_views_reply_alike, response_is_one, response_is_there}
use Rattle.mirror_http.proofs.laws.one_response_law.Goals as goal

pub returns-clause-one : goal.returns-clause-one
returns-clause-one c = response_is_one

pub returns-clause-there : goal.returns-clause-there
returns-clause-there c = response_is_there

pub returns-clause-alike : goal.returns-clause-alike
returns-clause-alike c = equal_views_reply_alike
