use Rattle.signed_note.proofs.mac_key.HmacKeyVerifier.id.Goals as goal

pub returns : goal.returns
returns c = cc
