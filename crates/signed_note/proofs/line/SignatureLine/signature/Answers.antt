use Rattle.signed_note.proofs.line.SignatureLine.signature.Goals as goal

pub returns : goal.returns
returns c = cc
