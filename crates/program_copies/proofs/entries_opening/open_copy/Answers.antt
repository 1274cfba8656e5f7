use Rattle.program_copies.proofs.CopyFaults.{refuses_copy}
use Rattle.program_copies.proofs.entries_opening.open_copy.Goals as goal

pub returns-in-Err-clause-refused : goal.returns-in-Err-clause-refused
returns-in-Err-clause-refused g c =
    refuses_copy g.H.TreeHash.digest c.args.origin.now _ (g.D.Shelf.puts c.args.shelf.now) c.in-Err.refused c.fault_of.result
    c.fault_of.ensures c.in-Err.ensures.fault c.in-Err.ensures.answer c.in-Err.ensures.damage
