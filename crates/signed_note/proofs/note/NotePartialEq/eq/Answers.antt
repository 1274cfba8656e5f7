use Rattle.std.proofs.Common.{subst}
use Rattle.signed_note.specs.Notes.{NoteParts, IsNote}
use Rattle.signed_note.proofs.OneReading.{same_notes}
use Rattle.signed_note.proofs.note.NotePartialEq.eq.Goals as goal

pub returns-clause-same : goal.returns-clause-same
returns-clause-same c =
    let holds = λ (v : NoteParts). IsNote v.bytes v.text v.lines in
    let mine = subst holds c.self.view_is c.self.invariant in
    let its = subst holds c.other.view_is c.other.invariant in
    same_notes c.args.self.now c.args.other.now mine its c.eq.result
    (rw (← c.self.view_is, ← c.other.view_is) c.eq.ensures)
