use Rattle.std.proofs.Common.{rules}
use Rattle.program_copies.proofs.evidence.put_proof.Goals as goal

pub returns-in-Some : goal.returns-in-Some
returns-in-Some g c = λ origin keys. let h = c.put_text.ensures origin keys in search rules
