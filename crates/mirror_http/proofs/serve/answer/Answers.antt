use Rattle.std.specs.Io.KnownBytes.{Appends}
use Rattle.byte_streams.specs.Streams.{AppendsPrefix}
use Rattle.mirror_http.specs.Response.{Response}
use Rattle.mirror_http.proofs.Replying.{given_reply}
use Rattle.mirror_http.proofs.serve.answer.Goals as goal

pub returns-in-Ok-write_whole-clause-answer : goal.returns-in-Ok-write_whole-clause-answer
returns-in-Ok-write_whole-clause-answer g c =
    given_reply (λ bytes reply. Response g.H.TreeHash.digest c.args.mirror.now.view bytes reply)
    (λ reply. Appends (g.W.Write.contents c.args.writer.now) _ reply) (g.R.Read.remaining c.args.reader.now)
    c.in-Ok.reply.items c.deref.result.now c.in-Ok.ensures.reply c.deref.ensures.value
    c.in-Ok-write_whole.ensures.ok

pub returns-clause-answer : goal.returns-clause-answer
returns-clause-answer g c =
    given_reply (λ bytes reply. Response g.H.TreeHash.digest c.args.mirror.now.view bytes reply)
    (λ reply. AppendsPrefix (g.W.Write.contents c.args.writer.now) _ reply) (g.R.Read.remaining c.args.reader.now)
    c.in-Ok.reply.items c.deref.result.now c.in-Ok.ensures.reply c.deref.ensures.value
    c.in-Err-write_whole.ensures.err
