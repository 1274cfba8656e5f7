use Rattle.mirror_files.proofs.OpenedNotes.{note_checked}
use Rattle.mirror_files.proofs.OpenedNotes.{one_opened}
use Rattle.mirror_files.proofs.opening.open_one.Goals as goal

pub returns-in-Ok : goal.returns-in-Ok
returns-in-Ok g c =
    one_opened c.args.note.now c.args.origin.now _ c.in-Ok.head c.in-Ok.ensures.reads c.in-Ok.ensures.note

pub returns-in-Err : goal.returns-in-Err
returns-in-Err g c =
    note_checked c.args.note.now c.args.origin.now _ c.in-Err.fault c.in-Err.ensures.reads c.note_fault.result
    c.note_fault.ensures
