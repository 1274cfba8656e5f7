use Rattle.copy_places.proofs.AskingEnds.{ends_noted}
use Rattle.copy_places.proofs.kept.note_end.Goals as goal

pub returns-clause-goes : goal.returns-clause-goes
returns-clause-goes g c =
    ends_noted g.S.Source.may_answer g.S.Source.failed g.S.Source.asked c.args.places.now c.note_wrong.new.self
    c.note_wrong.ensures.asks c.note_wrong.ensures.more c.note_wrong.ensures.ends
