use Rattle.copy_places.proofs.Answered.{answered_files_are_had}
use Rattle.copy_places.proofs.candidate_laws.answered_files_law.Goals as goal

pub returns : goal.returns
returns g c = answered_files_are_had g.S.Source.may_answer
