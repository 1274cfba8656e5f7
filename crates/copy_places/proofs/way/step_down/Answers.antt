use Rattle.copy_places.proofs.AskingEnds.{ends_same}
use Rattle.copy_places.proofs.way.step_down.Goals as goal

pub returns-then-index-edge_index-clause-goes : goal.returns-then-index-edge_index-clause-goes
returns-then-index-edge_index-clause-goes g c =
    ends_same g.S.Source.may_answer g.S.Source.failed g.S.Source.asked c.args.places.now

pub returns-then-is_whole-clause-goes : goal.returns-then-is_whole-clause-goes
returns-then-is_whole-clause-goes g c =
    ends_same g.S.Source.may_answer g.S.Source.failed g.S.Source.asked c.args.places.now

pub returns-in_default-clause-goes : goal.returns-in_default-clause-goes
returns-in_default-clause-goes g c =
    ends_same g.S.Source.may_answer g.S.Source.failed g.S.Source.asked c.args.places.now
