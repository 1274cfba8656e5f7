use Rattle.copy_follow.proofs.HonestForks.{log_script_places_are_whole, whole_places_contradict}
use Rattle.copy_follow.proofs.script_laws.whole_place_law.Goals as goal

pub returns-clause-contradicts : goal.returns-clause-contradicts
returns-clause-contradicts g c = whole_places_contradict g.S.Source.may_answer g.S.Source.failed g.S.Source.asked

pub returns-clause-scripts : goal.returns-clause-scripts
returns-clause-scripts g c = log_script_places_are_whole
