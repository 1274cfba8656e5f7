use Rattle.program_io.proofs.CheckText.{proof_is_utf8}
use Rattle.program_io.proofs.check.proof_holds.Goals as goal

pub returns-in_default : goal.returns-in_default
returns-in_default c = λ proof is. c.in_default.ensures.cases.0 (proof_is_utf8 c.args.bytes.now proof is)
