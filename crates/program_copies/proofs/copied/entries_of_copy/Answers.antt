use Rattle.program_copies.proofs.WholeSteps.{answers_moved}
use Rattle.program_copies.proofs.copied.entries_of_copy.Goals as goal

pub returns-clause-answer : goal.returns-clause-answer
returns-clause-answer g c =
    answers_moved g.H.TreeHash.digest c.args.origin.now _ (g.D.Shelf.puts c.open.new.self)
    (g.D.NamedFolders.held c.args.folders.now c.args.folder.now) c.args.range.now.from c.args.range.now.to
    c.args.range.now.base64 (g.W.Write.contents c.args.output.now) (g.W.Write.contents c.write_range.new.output)
    c.write_range.result c.in-Ok.ensures.opened c.write_range.ensures.answer
