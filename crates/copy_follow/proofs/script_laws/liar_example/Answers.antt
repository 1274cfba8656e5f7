use Rattle.copy_follow.proofs.ScriptExamples.{liars_are_allowed}
use Rattle.copy_follow.proofs.script_laws.liar_example.Goals as goal

pub returns : goal.returns
returns c = liars_are_allowed
