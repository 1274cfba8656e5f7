use Rattle.mirror_model.proofs.TreeLaws.{round_leaves, round_goes_down, bundles_complete}
use Rattle.mirror_model.proofs.ManyRounds.{front_is_below_top, rounds_complete}
use Rattle.mirror_model.proofs.laws.fronts.rounds_law.Goals as goal

pub returns-clause-leaves : goal.returns-clause-leaves
returns-clause-leaves c = round_leaves

pub returns-clause-down : goal.returns-clause-down
returns-clause-down c = round_goes_down

pub returns-clause-complete : goal.returns-clause-complete
returns-clause-complete c = bundles_complete

pub returns-clause-first : goal.returns-clause-first
returns-clause-first c = front_is_below_top

pub returns-clause-number : goal.returns-clause-number
returns-clause-number c = rounds_complete
