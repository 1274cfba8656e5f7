use Rattle.mirror_files.specs.Stands.{parts_of}
use Rattle.mirror_files.proofs.Loaded.{notes_recorded}
use Rattle.mirror_files.proofs.LoadedNotes.{opened_at}
use Rattle.mirror_files.proofs.loading.load_lists.Goals as goal

pub load_opened-loaded-requires-clause-said : goal.load_opened-loaded-requires-clause-said
load_opened-loaded-requires-clause-said g c =
    (opened_at c.args.origin.now _ _ _ _ _ c.notes.ensures c.as_slice.ensures.value c.in-Ok.ensures).said

pub returns-in-Err-clause-loads : goal.returns-in-Err-clause-loads
returns-in-Err-clause-loads g c = λ bytes listed.
    notes_recorded g.H.TreeHash.digest c.args.origin.now _ bytes (parts_of c.args.lists.now) listed
    _ c.notes.ensures c.in-Err.fault c.in-Err.ensures

pub returns-in-Ok-clause-loads : goal.returns-in-Ok-clause-loads
returns-in-Ok-clause-loads g c = λ bytes listed.
    c.load_opened-loaded.ensures.loads bytes _ listed
    (opened_at c.args.origin.now _ _ _ _ _ c.notes.ensures c.as_slice.ensures.value c.in-Ok.ensures)
