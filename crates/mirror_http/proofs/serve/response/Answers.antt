use Rattle.mirror_http.specs.Response.{IsBody}
use Rattle.mirror_http.proofs.Replying.{responds_to}
use Rattle.mirror_http.proofs.serve.response.Goals as goal

pub returns-clause-reply : goal.returns-clause-reply
returns-clause-reply g c =
    responds_to (IsBody g.H.TreeHash.digest c.args.mirror.now.view) (g.R.Read.remaining c.args.reader.now)
    c.in_ok-request.request _ c.in_ok-reply_to.field-0.items c.in_ok-request.ensures.asked c.in_ok-body.ensures
    c.in_ok-reply_to.ensures
