use Rattle.std.proofs.Common.{◌≤◌, subst}
use Rattle.copy_reader.proofs.WholeCopies.{files_later}
use Rattle.program_copies.proofs.CopyFaults.{names_before}
use Rattle.program_copies.proofs.WholeSteps.{answers_written}
use Rattle.program_copies.proofs.copied.write_range.Goals as goal

pub returns-clause-answer : goal.returns-clause-answer
returns-clause-answer g c =
    let digest = g.H.TreeHash.digest in
    let range = c.args.range.now in
    let held = g.D.Shelf.puts c.args.shelf.now in
    let edge = c.in_ok-reader.reader.edge in
    let done = c.write_copied.ensures in
    let fits = c.in-None.ensures in
    let within : range.to ≤ edge.size = subst (λ n. range.to ≤ n) c.size.ensures fits.1 in
    answers_written digest c.args.origin.now _ held range.from range.to range.base64 (g.W.Write.contents c.args.output.now)
    (g.W.Write.contents c.write_copied.new.output) edge c.in_ok-reader.ensures.open fits.0 within
    c.write_copied.result done.ok done.err done.fault
    (λ note entries w. done.honest entries (c.in_ok-reader.ensures.whole note entries w)
    (files_later digest held (g.D.Shelf.puts c.open_copy.new.shelf) c.in_ok-reader.ensures.same entries w.files))
    (names_before digest held edge (g.D.Shelf.puts c.open_copy.new.shelf) c.in_ok-reader.ensures.same c.write_copied.result
    done.damage)
