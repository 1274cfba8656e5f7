use Rattle.std.proofs.Common.{sym, subst}
use Rattle.mirror_model.specs.Complete.{IsTreeOf}
use Rattle.mirror_model.specs.Marks.{State}
use Rattle.mirror_model.specs.Served.{Served}
use Rattle.mirror_trees.proofs.FileSteps.{at_some_and}
use Rattle.tlog_mirror.specs.Kept.{note_bytes}
use Rattle.mirror_trees.specs.declared.held_note.HeldNote.{HeldNote}
use Rattle.tlog_mirror.proofs.LaidOut.{laid_anew}
use Rattle.tlog_mirror.proofs.mirror.Mirror.laid_now.Goals as goal

pub returns : goal.returns
returns g c =
    let d = g.H.TreeHash.digest in
    let v = c.args.self.now.view in
    let served = c.in-Some.served.now in
    let files = c.in-Some-2.files in
    let held : IsTreeOf d c.self.inside.strings served.size served.root files =
    at_some_and c.in_ok-files.field-0 files _ c.in-Some-2.is c.in_ok-files.ensures in
    let tree : IsTreeOf d v.strings served.size served.root files =
    subst (λ (s : State). IsTreeOf d s.view.strings served.size served.root files) c.self.view_is held in
    subst (λ (k : HeldNote). Served d v (note_bytes k) k.size k.root files) (sym c.in_ok-note.ensures)
    (laid_anew d v served files c.in-Some.ensures.some tree)
