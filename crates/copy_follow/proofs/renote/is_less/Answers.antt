use Rattle.copy_follow.proofs.TurnOrder.{note_test}
use Rattle.copy_follow.proofs.renote.is_less.Goals as goal

pub returns-clause-less : goal.returns-clause-less
returns-clause-less c = λ t. (note_test c.args.first.now c.args.second.now c.lt.result c.lt.ensures).0 t

pub returns-clause-other : goal.returns-clause-other
returns-clause-other c = λ f. (note_test c.args.first.now c.args.second.now c.lt.result c.lt.ensures).1 f
