use Rattle.std.proofs.Common.{rules}
use Rattle.mirror_http.proofs.resource.is_spelled.Goals as goal

pub returns-then-is_ok-clause-spelled : goal.returns-then-is_ok-clause-spelled
returns-then-is_ok-clause-spelled c = search rules
