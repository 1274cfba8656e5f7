use Rattle.signed_note.proofs.line.SignatureLine.id.Goals as goal

pub returns : goal.returns
returns c = cc
