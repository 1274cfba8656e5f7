use Rattle.copy_follow.proofs.Scripted.{files_are_clear_or_clash, scripts_are_clear}
use Rattle.copy_follow.proofs.script_laws.script_law.Goals as goal

pub returns-clause-clear : goal.returns-clause-clear
returns-clause-clear g c = scripts_are_clear g.S.Source.may_answer

pub returns-clause-clash : goal.returns-clause-clash
returns-clause-clash g c = files_are_clear_or_clash
