use Rattle.std.proofs.Common.{inl, refl}
use Rattle.program_reports.proofs.reports.served_status.Goals as goal

pub returns-in-Some : goal.returns-in-Some
returns-in-Some g c =
    let note = c.in-Some.field-0 in
    let is = c.in-Some.ensures.some in
    inl (record { size = is.size; root = is.root }, (note.now.bytes, is.entries, is.served), refl)
