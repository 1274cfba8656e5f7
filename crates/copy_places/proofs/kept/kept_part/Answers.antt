use Rattle.copy_places.proofs.AskingEnds.{ends_then}
use Rattle.copy_places.proofs.kept.kept_part.Goals as goal

pub returns-in-NotFound-clause-goes : goal.returns-in-NotFound-clause-goes
returns-in-NotFound-clause-goes g c =
    ends_then g.S.Source.may_answer g.S.Source.failed g.S.Source.asked c.args.places.now c.ask_end.new.places c.note_end-in-NotFound.new.places c.ask_end.ensures.goes c.note_end-in-NotFound.ensures.goes

pub returns-in-File-clause-goes : goal.returns-in-File-clause-goes
returns-in-File-clause-goes g c =
    ends_then g.S.Source.may_answer g.S.Source.failed g.S.Source.asked c.args.places.now c.ask_end.new.places c.note_end.new.places c.ask_end.ensures.goes c.note_end.ensures.goes
