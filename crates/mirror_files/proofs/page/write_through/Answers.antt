use Rattle.std.proofs.Common.{[]}
use Rattle.std.proofs.lemmas.Result.{err_from_is_err_and}
use Rattle.mirror_files.proofs.Putting.{writes_short, writes_then, last_piece}
use Rattle.mirror_files.proofs.page.write_through.Goals as goal

pub returns-in_err-flush-clause-writes : goal.returns-in_err-flush-clause-writes
returns-in_err-flush-clause-writes g c =
    let p = err_from_is_err_and c.from_residual.result c.from_residual.ensures.1 in
    rw p.1 (writes_short (g.W.Write.contents c.args.writer.now) (g.W.Write.contents c.flush.new.writer)
    c.args.held.now.items c.flush.new.held.items [] c.args.piece.now c.in_err-flush.field-0.0 c.in_err-flush.ensures.writes)

pub returns-clause-writes : goal.returns-clause-writes
returns-clause-writes g c =
    writes_then (g.W.Write.contents c.args.writer.now) (g.W.Write.contents c.flush.new.writer)
    (g.W.Write.contents c.write_whole.new.writer) c.args.held.now.items c.flush.new.held.items
    c.flush.new.held.items [] c.args.piece.now c.write_whole.result c.in_ok-flush.ensures.writes (last_piece
    (g.W.Write.contents c.flush.new.writer) (g.W.Write.contents c.write_whole.new.writer) c.flush.new.held.items
    c.args.piece.now c.write_whole.result c.in_ok-flush.ensures.empty c.write_whole.ensures.ok c.write_whole.ensures.err)
