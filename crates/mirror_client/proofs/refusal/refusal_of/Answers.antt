use Rattle.mirror_client.proofs.Replies.{front_is, is_refusal}
use Rattle.mirror_client.proofs.refusal.refusal_of.Goals as goal

pub returns : goal.returns
returns c =
    let f = c.in_ok-status.ensures.found in
    is_refusal c.args.bytes.now _ f.0 c.in_ok-status.status _ c.in_ok-status.framing
    (front_is c.min.result c.args.bytes.now c.min.ensures) f.1 f.2 f.3 f.4 (c.is_busy.ensures.0 c.if-not-is_busy.false)
