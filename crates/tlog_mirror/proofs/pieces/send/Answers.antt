use Rattle.std.proofs.Common.{refl, subst, ◌∙◌}
use Rattle.std.specs.Io.KnownBytes.{Appends}
use Rattle.std.proofs.lemmas.Result.{on_ok_weaker, on_err_weaker}
use Rattle.byte_streams.specs.Streams.{AppendsPrefix}
use Rattle.tlog_mirror.proofs.SentPieces.{in_err, prefix_more, prefix_then, held_back, all_sent}
use Rattle.tlog_mirror.proofs.pieces.send.Goals as goal

pub returns-then-hold_back-clause-ok : goal.returns-then-hold_back-clause-ok
returns-then-hold_back-clause-ok g c =
    held_back (g.W.Write.contents c.args.output.now) (g.W.Write.contents c.args.output.now) c.args.held.now.items
    c.args.bytes.now c.hold_back.new.held.items refl c.if-hold_back.ensures

pub returns-in_err-write_whole-clause-err : goal.returns-in_err-write_whole-clause-err
returns-in_err-write_whole-clause-err g c =
    let old = g.W.Write.contents c.args.output.now in
    let new = g.W.Write.contents c.write_whole.new.writer in
    in_err c.from_residual.result
    (prefix_more old new c.args.held.now.items c.args.bytes.now
    (subst (AppendsPrefix old new) (c.as_slice.ensures.value ∙ c.if-hold_back.ensures)
    c.in_err-write_whole.ensures.err))

pub returns-clause-ok : goal.returns-clause-ok
returns-clause-ok g c =
    let old = g.W.Write.contents c.args.output.now in
    let mid = g.W.Write.contents c.write_whole.new.writer in
    let new = g.W.Write.contents c.write_whole-2.new.writer in
    let first =
    subst (Appends old mid) (c.as_slice.ensures.value ∙ c.if-hold_back.ensures) c.in_ok-write_whole.ensures.ok in
    on_ok_weaker c.write_whole-2.result
    (λ (q : Appends mid new c.args.bytes.now). all_sent old mid new c.args.held.now.items c.args.bytes.now
    c.clear.new.self.items first q c.clear.ensures.items)
    c.write_whole-2.ensures.ok

pub returns-clause-err : goal.returns-clause-err
returns-clause-err g c =
    let old = g.W.Write.contents c.args.output.now in
    let mid = g.W.Write.contents c.write_whole.new.writer in
    let new = g.W.Write.contents c.write_whole-2.new.writer in
    let first =
    subst (Appends old mid) (c.as_slice.ensures.value ∙ c.if-hold_back.ensures) c.in_ok-write_whole.ensures.ok in
    on_err_weaker c.write_whole-2.result
    (λ (q : AppendsPrefix mid new c.args.bytes.now). prefix_then old mid new c.args.held.now.items c.args.bytes.now
    first q)
    c.write_whole-2.ensures.err
