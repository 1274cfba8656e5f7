use Rattle.std.proofs.Common.{◌++◌, ap}
use Rattle.tlog_mirror.proofs.SentPieces.{in_err}
use Rattle.tlog_mirror.proofs.MissingSteps.{fails_first, sends_both, fails_both}
use Rattle.tlog_mirror.proofs.lines.write_last.Goals as goal

pub returns-in_err-send-clause-err : goal.returns-in_err-send-clause-err
returns-in_err-send-clause-err g c =
    in_err c.from_residual.result
    (fails_first (g.W.Write.contents c.args.output.now) (g.W.Write.contents c.send.new.output) c.args.held.now.items
    c.last_of-last.result c.args.end.now _ (ap (λ t. t ++ c.args.end.now) c.last_of-last.ensures) c.in_err-send.ensures.err)

pub returns-clause-ok : goal.returns-clause-ok
returns-clause-ok g c =
    sends_both (g.W.Write.contents c.args.output.now) (g.W.Write.contents c.send.new.output) c.args.held.now.items
    c.last_of-last.result c.args.end.now _ (ap (λ t. t ++ c.args.end.now) c.last_of-last.ensures) (g.W.Write.contents c.send-2.new.output) c.send.new.held.items c.in_ok-send.ensures.ok c.send-2.result
    c.send-2.new.held.items c.send-2.ensures.ok

pub returns-clause-err : goal.returns-clause-err
returns-clause-err g c =
    fails_both (g.W.Write.contents c.args.output.now) (g.W.Write.contents c.send.new.output) c.args.held.now.items
    c.last_of-last.result c.args.end.now _ (ap (λ t. t ++ c.args.end.now) c.last_of-last.ensures) (g.W.Write.contents c.send-2.new.output) c.send.new.held.items c.in_ok-send.ensures.ok c.send-2.result
    c.send-2.ensures.err
