use Rattle.mirror_model.proofs.ServedBundles.{bundles_are_all, bundles_are_served}
use Rattle.mirror_model.proofs.laws.truth.bundles_law.Goals as goal

pub returns-clause-all : goal.returns-clause-all
returns-clause-all c = bundles_are_all

pub returns-clause-served : goal.returns-clause-served
returns-clause-served c = bundles_are_served
