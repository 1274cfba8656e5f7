use Rattle.std.proofs.Common.{sym, ◌∙◌}
use Rattle.mirror_http.proofs.ServedProofs.{listed_by_top}
use Rattle.mirror_http.proofs.body.proof_bytes.Goals as goal

pub returns-clause-none : goal.returns-clause-none
returns-clause-none g c = λ bytes is.
    let listed = listed_by_top g.H.TreeHash.digest c.args.mirror.now.view c.in-Some.top c.in-Some.ensures.some
    is.entries is.served in
    let err = c.in-Err.ensures.answer is.entries listed c.in_ok-check_memory-in-Err.ensures in
    absurd (cc (sym is.made ∙ err))
