use Rattle.std.proofs.Common.{subst}
use Rattle.sha2.specs.Sha256.{sha256}
use Rattle.program_io.specs.Check.{Judges}
use Rattle.program_io.proofs.CheckText.{judges_whole}
use Rattle.program_io.proofs.check.verdict_of.Goals as goal

pub returns-clause-verdict : goal.returns-clause-verdict
returns-clause-verdict g c =
    judges_whole sha256 (g.R.Read.remaining c.args.reader.now) c.in_ok-bytes.bytes.items c.proof_holds.result
    c.in_ok-bytes.ensures.bytes (subst (λ b. Judges sha256 b c.proof_holds.result) c.deref.ensures.value c.proof_holds.ensures)
