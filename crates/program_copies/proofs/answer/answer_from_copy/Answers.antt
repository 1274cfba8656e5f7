use Rattle.program_copies.specs.CopyHeads.{LacksKeys}
use Rattle.program_copies.proofs.Answering.{answers_error, answers_whole}
use Rattle.program_copies.proofs.answer.answer_from_copy.Goals as goal

pub returns-in-Ok-reply_from_copy-clause-answer : goal.returns-in-Ok-reply_from_copy-clause-answer
returns-in-Ok-reply_from_copy-clause-answer g c =
    answers_whole (g.W.Write.contents c.args.writer.now) _ g.H.TreeHash.digest (g.K.CopyKeys.are_keys c.args.keys.now)
    c.args.kept.now c.args.origin.now (g.D.Shelf.puts c.args.shelf.now) (g.R.Read.remaining c.args.reader.now)
    c.in-Ok.request c.in-Ok-reply_from_copy.reply.items c.write_reply.result c.in-Ok.ensures.asked
    c.in-Ok-reply_from_copy.ensures.reply (rw c.deref.ensures.value at c.write_reply.ensures)

pub returns-in-Err-reply_from_copy-clause-answer : goal.returns-in-Err-reply_from_copy-clause-answer
returns-in-Err-reply_from_copy-clause-answer g c =
    answers_error (g.W.Write.contents c.args.writer.now) _ g.H.TreeHash.digest (g.K.CopyKeys.are_keys c.args.keys.now)
    c.args.kept.now c.args.origin.now (g.D.Shelf.puts c.args.shelf.now)
    (LacksKeys (g.K.CopyKeys.may_fail c.args.keys.now) c.args.kept.now (g.D.Shelf.puts c.args.shelf.now)) c.in-Ok.request
    (g.R.Read.remaining c.args.reader.now) c.in-Err-reply_from_copy.fault c.write_error.result c.in-Ok.ensures.asked
    c.in-Err-reply_from_copy.ensures.blames c.write_error.ensures
