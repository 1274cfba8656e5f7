use Rattle.copy_follow.proofs.LogScripts.{log_scripts_are_whole, log_scripts_suffice}
use Rattle.copy_follow.proofs.script_laws.log_script_law.Goals as goal

pub returns-clause-suffices : goal.returns-clause-suffices
returns-clause-suffices c = log_scripts_suffice

pub returns-clause-whole : goal.returns-clause-whole
returns-clause-whole c = log_scripts_are_whole
