use Rattle.signed_note.proofs.line.SignatureLine.name.Goals as goal

pub returns : goal.returns
returns c = cc
