use Rattle.program_copies.specs.Evidence.{note_as}
use Rattle.program_copies.proofs.Putting.{looked}
use Rattle.program_copies.proofs.evidence.finds_note.Goals as goal

pub returns-in-Ok : goal.returns-in-Ok
returns-in-Ok g c =
    looked c.args.origin.now _ (g.F.NamedFiles.puts c.args.files.now) (note_as c.args.place.now c.args.note.now)
    c.in-Ok-Some.there.items c.in-Ok.serves (rw c.in-Ok-Some.field-0-is at c.in-Ok-Some.ensures)
    (rw c.deref.ensures.value at c.in-Ok.ensures c.args.place.now)
