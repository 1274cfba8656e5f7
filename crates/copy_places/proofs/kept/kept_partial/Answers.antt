use Rattle.copy_places.proofs.AskingEnds.{ends_then}
use Rattle.copy_places.proofs.kept.kept_partial.Goals as goal

pub returns-in-NotFound-clause-goes : goal.returns-in-NotFound-clause-goes
returns-in-NotFound-clause-goes g c =
    ends_then g.S.Source.may_answer g.S.Source.failed g.S.Source.asked c.args.places.now c.ask_end.new.places c.kept_part.new.places c.ask_end.ensures.goes c.kept_part.ensures.goes
