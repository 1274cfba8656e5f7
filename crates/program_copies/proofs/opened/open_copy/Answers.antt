use Rattle.program_copies.proofs.Damages.{names_there}
use Rattle.program_copies.proofs.Reading.{edge_there, opens_there}
use Rattle.program_copies.proofs.opened.open_copy.Goals as goal

pub returns-in-Ok-open-clause-answer : goal.returns-in-Ok-open-clause-answer
returns-in-Ok-open-clause-answer g c =
    opens_there g.H.TreeHash.digest c.args.origin.now _ (g.D.Shelf.puts c.open.new.self)
    (g.D.NamedFolders.held c.args.folders.now c.args.folder.now) c.open_shelf.result c.in-Ok-open.ensures.opened
    c.open_shelf.ensures.answer

pub returns-in-Ok-open-clause-damage : goal.returns-in-Ok-open-clause-damage
returns-in-Ok-open-clause-damage g c =
    names_there g.H.TreeHash.digest c.args.origin.now _ (g.D.Shelf.puts c.open.new.self)
    (g.D.NamedFolders.held c.args.folders.now c.args.folder.now) c.open_shelf.result c.in-Ok-open.ensures.opened
    c.open_shelf.ensures.damage

pub returns-in-Ok-open-clause-given : goal.returns-in-Ok-open-clause-given
returns-in-Ok-open-clause-given g c =
    edge_there (g.D.Shelf.puts c.open.new.self) (g.D.NamedFolders.held c.args.folders.now c.args.folder.now)
    c.open_shelf.result c.in-Ok-open.ensures.opened c.open_shelf.ensures.given
