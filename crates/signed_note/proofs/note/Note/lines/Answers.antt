use Rattle.signed_note.proofs.note.Note.lines.Goals as goal

pub returns : goal.returns
returns c = cc
