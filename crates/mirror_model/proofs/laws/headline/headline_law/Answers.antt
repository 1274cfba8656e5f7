use Rattle.mirror_model.proofs.Headline.{mirrors_agree, no_play_clashes, same_reached, plays_bring, plays_tell_truth}
use Rattle.mirror_model.proofs.Headline.{plays_grow, plays_keep_entries}
use Rattle.mirror_model.proofs.laws.headline.headline_law.Goals as goal

pub returns-clause-agree : goal.returns-clause-agree
returns-clause-agree c = mirrors_agree

pub returns-clause-no_clash : goal.returns-clause-no_clash
returns-clause-no_clash c = no_play_clashes

pub returns-clause-same : goal.returns-clause-same
returns-clause-same c = same_reached

pub returns-clause-union : goal.returns-clause-union
returns-clause-union c = plays_bring

pub returns-clause-truth : goal.returns-clause-truth
returns-clause-truth c = plays_tell_truth

pub returns-clause-growth : goal.returns-clause-growth
returns-clause-growth c = plays_grow

pub returns-clause-entries : goal.returns-clause-entries
returns-clause-entries c = plays_keep_entries
