use Rattle.std.proofs.Common.{◌++◌, ◌/◌, sym, append_assoc}
use Rattle.tlog_tiles.specs.Path.{groups_text, three_digits}
use Rattle.tlog_mirror.proofs.SentPieces.{in_err}
use Rattle.tlog_mirror.proofs.MissingSteps.{fails_first, sends_both, fails_both}
use Rattle.tlog_mirror.proofs.lines.write_index.Goals as goal

pub returns-in_err-write_groups-clause-err : goal.returns-in_err-write_groups-clause-err
returns-in_err-write_groups-clause-err g c =
    in_err c.from_residual.result
    (fails_first (g.W.Write.contents c.args.output.now) (g.W.Write.contents c.write_groups.new.output) c.args.held.now.items
    (groups_text (c.args.index / 1000)) (three_digits c.args.index ++ c.args.end.now) _ (sym (append_assoc (groups_text (c.args.index / 1000)) (three_digits c.args.index) c.args.end.now)) c.in_err-write_groups.ensures.err)

pub returns-clause-ok : goal.returns-clause-ok
returns-clause-ok g c =
    sends_both (g.W.Write.contents c.args.output.now) (g.W.Write.contents c.write_groups.new.output) c.args.held.now.items
    (groups_text (c.args.index / 1000)) (three_digits c.args.index ++ c.args.end.now) _ (sym (append_assoc (groups_text (c.args.index / 1000)) (three_digits c.args.index) c.args.end.now)) (g.W.Write.contents c.write_last.new.output) c.write_groups.new.held.items c.in_ok-write_groups.ensures.ok c.write_last.result
    c.write_last.new.held.items c.write_last.ensures.ok

pub returns-clause-err : goal.returns-clause-err
returns-clause-err g c =
    fails_both (g.W.Write.contents c.args.output.now) (g.W.Write.contents c.write_groups.new.output) c.args.held.now.items
    (groups_text (c.args.index / 1000)) (three_digits c.args.index ++ c.args.end.now) _ (sym (append_assoc (groups_text (c.args.index / 1000)) (three_digits c.args.index) c.args.end.now)) (g.W.Write.contents c.write_last.new.output) c.write_groups.new.held.items c.in_ok-write_groups.ensures.ok c.write_last.result
    c.write_last.ensures.err
