use Rattle.mirror_model.proofs.TrueItems.{front_is_within, front_is_widest, true_strings_within}
use Rattle.mirror_model.proofs.laws.truth.true_fronts_law.Goals as goal

pub returns-clause-within : goal.returns-clause-within
returns-clause-within c = front_is_within

pub returns-clause-widest : goal.returns-clause-widest
returns-clause-widest c = front_is_widest

pub returns-clause-tree : goal.returns-clause-tree
returns-clause-tree c = true_strings_within
