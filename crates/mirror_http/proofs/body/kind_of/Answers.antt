use Rattle.std.proofs.Common.{rules}
use Rattle.mirror_http.proofs.body.kind_of.Goals as goal

pub returns-in-File-Entries : goal.returns-in-File-Entries
returns-in-File-Entries c = search rules
