use Rattle.program_library.proofs.Signers.{signers_are_keys}
use Rattle.program_library.proofs.laws.signing_key_law.Goals as goal

pub returns : goal.returns
returns c = signers_are_keys
