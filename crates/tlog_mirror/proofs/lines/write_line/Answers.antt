use Rattle.std.proofs.Common.{◌++◌, refl}
use Rattle.tlog_tiles.specs.Path.{index_text}
use Rattle.tlog_mirror.proofs.SentPieces.{in_err}
use Rattle.tlog_mirror.proofs.MissingSteps.{fails_first, sends_both, fails_both}
use Rattle.tlog_mirror.proofs.lines.write_line.Goals as goal

pub returns-in_err-send-clause-err : goal.returns-in_err-send-clause-err
returns-in_err-send-clause-err g c =
    in_err c.from_residual.result
    (fails_first (g.W.Write.contents c.args.output.now) (g.W.Write.contents c.send.new.output) c.args.held.now.items
    c.args.begin.now (index_text c.args.index ++ c.args.end.now) _ refl c.in_err-send.ensures.err)

pub returns-clause-ok : goal.returns-clause-ok
returns-clause-ok g c =
    sends_both (g.W.Write.contents c.args.output.now) (g.W.Write.contents c.send.new.output) c.args.held.now.items
    c.args.begin.now (index_text c.args.index ++ c.args.end.now) _ refl (g.W.Write.contents c.write_index.new.output) c.send.new.held.items c.in_ok-send.ensures.ok c.write_index.result
    c.write_index.new.held.items c.write_index.ensures.ok

pub returns-clause-err : goal.returns-clause-err
returns-clause-err g c =
    fails_both (g.W.Write.contents c.args.output.now) (g.W.Write.contents c.send.new.output) c.args.held.now.items
    c.args.begin.now (index_text c.args.index ++ c.args.end.now) _ refl (g.W.Write.contents c.write_index.new.output) c.send.new.held.items c.in_ok-send.ensures.ok c.write_index.result
    c.write_index.ensures.err
