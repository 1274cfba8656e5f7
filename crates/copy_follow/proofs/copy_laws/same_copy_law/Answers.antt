use Rattle.copy_follow.proofs.SameCopies.{copies_are_exported, copies_are_same, pruned_are_same}
use Rattle.copy_follow.proofs.copy_laws.same_copy_law.Goals as goal

pub returns-clause-same : goal.returns-clause-same
returns-clause-same c = copies_are_same

pub returns-clause-pruned : goal.returns-clause-pruned
returns-clause-pruned c = pruned_are_same

pub returns-clause-exported : goal.returns-clause-exported
returns-clause-exported c = copies_are_exported
