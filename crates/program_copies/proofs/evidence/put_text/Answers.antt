use Rattle.std.proofs.Common.{rules}
use Rattle.program_copies.proofs.evidence.put_text.Goals as goal

pub returns : goal.returns
returns g c = λ origin keys. let h = c.put_bytes.ensures origin keys in search rules
