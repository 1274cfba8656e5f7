use Rattle.std.proofs.Common.{List, ℕ, ◌++◌, ap, ◌∙◌}
use Rattle.mirror_http.proofs.Statuses.{found_head_is}
use Rattle.mirror_http.proofs.reply.found_reply.Goals as goal

pub returns : goal.returns
returns c =
    let head = ap (λ v. v.items) c.into_bytes-reply.ensures.value
    ∙ (c.in_ok-head.ensures ∙ found_head_is c.args.kind.now _) in
    c.in_ok-extend_from_slice.ensures.items ∙ ap (λ (x : List ℕ). x ++ c.args.body.now) head
