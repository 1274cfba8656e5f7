use Rattle.copy_follow.proofs.PrunedFiles.{copies_are_pruned}
use Rattle.copy_follow.proofs.copy_laws.pruned_copy_law.Goals as goal

pub returns : goal.returns
returns c = copies_are_pruned
