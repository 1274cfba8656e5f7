use Rattle.mirror_files.proofs.RefusedNotes.{index_fits}
use Rattle.mirror_files.proofs.refused.refused_note.Goals as goal

pub name_of-requires : goal.name_of-requires
name_of-requires g c =
    index_fits g.H.TreeHash.digest c.args.origin.now _ c.args.bytes.now c.in-Some.index c.in-Some.note.now
    (rw c.in-Some.is at c.in_ok-index.ensures)
