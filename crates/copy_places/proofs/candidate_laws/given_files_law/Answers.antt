use Rattle.copy_places.proofs.GivenFiles.{given_files_are_had}
use Rattle.copy_places.proofs.candidate_laws.given_files_law.Goals as goal

pub returns : goal.returns
returns c = given_files_are_had
