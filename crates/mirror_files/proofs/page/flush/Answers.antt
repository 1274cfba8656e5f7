use Rattle.std.proofs.Common.{[]}
use Rattle.std.proofs.lemmas.Result.{err_from_is_err_and}
use Rattle.mirror_files.proofs.Putting.{written_held, unwritten_held}
use Rattle.mirror_files.proofs.page.flush.Goals as goal

pub returns-in_err-write_whole-clause-writes : goal.returns-in_err-write_whole-clause-writes
returns-in_err-write_whole-clause-writes g c =
    let p = err_from_is_err_and c.from_residual.result c.from_residual.ensures.1 in
    rw p.1 (unwritten_held (g.W.Write.contents c.args.writer.now)
    (g.W.Write.contents c.write_whole.new.writer) c.args.held.now.items c.args.held.now.items [] c.in_err-write_whole.field-0.0
    (rw c.as_slice.ensures.value at c.in_err-write_whole.ensures.err))

pub returns-clause-writes : goal.returns-clause-writes
returns-clause-writes g c =
    rw c.clear.ensures.items
    (written_held (g.W.Write.contents c.args.writer.now) (g.W.Write.contents c.write_whole.new.writer)
    c.args.held.now.items (rw c.as_slice.ensures.value at c.in_ok-write_whole.ensures.ok))
