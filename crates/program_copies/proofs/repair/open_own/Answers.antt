use Rattle.program_copies.proofs.Repaired.{counts_after}
use Rattle.program_copies.proofs.repair.open_own.Goals as goal

pub returns-in-Err-clause-opens : goal.returns-in-Err-clause-opens
returns-in-Err-clause-opens g c = c.in-Err.ensures.refused c.args.origin.now _

pub returns-in-Err-open_note-clause-counted : goal.returns-in-Err-open_note-clause-counted
returns-in-Err-open_note-clause-counted g c =
    counts_after (g.D.Shelf.failed c.args.folders.now) (g.D.Shelf.failed c.read_own.new.folders) c.in-Err-open_note.fault
    c.in-Ok-Some.ensures.counted (c.in-Err-open_note.ensures.counted (g.D.Shelf.failed c.args.folders.now))
