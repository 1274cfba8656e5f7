use Rattle.signed_note.specs.Hmac.{hmac}
use Rattle.signed_note.proofs.hmac.hmac_of.Goals as goal

pub returns : goal.returns
unfolding hmac
returns c = cc
