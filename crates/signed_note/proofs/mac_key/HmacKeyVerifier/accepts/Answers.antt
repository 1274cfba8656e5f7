use Rattle.signed_note.proofs.mac_key.HmacKeyVerifier.accepts.Goals as goal

pub returns : goal.returns
returns c = cc
