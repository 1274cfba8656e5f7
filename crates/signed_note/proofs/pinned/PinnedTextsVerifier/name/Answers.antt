use Rattle.signed_note.proofs.pinned.PinnedTextsVerifier.name.Goals as goal

pub returns : goal.returns
returns c = cc
