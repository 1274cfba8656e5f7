use Rattle.copy_places.proofs.ForkLines.{fork_line_is_evidence}
use Rattle.copy_places.proofs.candidate_laws.fork_line_law.Goals as goal

pub returns : goal.returns
returns c = fork_line_is_evidence
