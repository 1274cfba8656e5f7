use Rattle.copy_places.proofs.AskingEnds.{ends_same, ends_then}
use Rattle.copy_places.proofs.kept.kept_row.Goals as goal

pub returns-then-width-eq0-clause-goes : goal.returns-then-width-eq0-clause-goes
returns-then-width-eq0-clause-goes g c =
    ends_same g.S.Source.may_answer g.S.Source.failed g.S.Source.asked c.args.places.now

pub returns-clause-goes : goal.returns-clause-goes
returns-clause-goes g c =
    ends_then g.S.Source.may_answer g.S.Source.failed g.S.Source.asked c.args.places.now c.kept_partial.new.places c.note_end.new.places c.kept_partial.ensures.goes c.note_end.ensures.goes
