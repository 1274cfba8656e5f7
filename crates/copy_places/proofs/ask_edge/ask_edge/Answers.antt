use Rattle.copy_places.proofs.AskingEnds.{ends_same}
use Rattle.copy_places.proofs.ask_edge.ask_edge.Goals as goal

pub returns-in_err-edge-clause-goes : goal.returns-in_err-edge-clause-goes
returns-in_err-edge-clause-goes g c =
    ends_same g.S.Source.may_answer g.S.Source.failed g.S.Source.asked c.args.places.now

pub returns-in-Some-clause-goes : goal.returns-in-Some-clause-goes
returns-in-Some-clause-goes g c =
    ends_same g.S.Source.may_answer g.S.Source.failed g.S.Source.asked c.args.places.now
