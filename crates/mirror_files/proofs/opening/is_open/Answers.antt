use Rattle.std.proofs.Common.{rules, ◌≢◌}
use Rattle.mirror_model.specs.declared.fault.TakeFault.TheVariants as taking
use Rattle.mirror_files.proofs.OpenedNotes.{stays_closed}
use Rattle.mirror_files.proofs.opening.is_open.Goals as goal

pub returns-in-Err : goal.returns-in-Err
returns-in-Err g c =
    let memory : c.in-Err.field-0 ≢ taking.OutOfMemory = search rules in
    stays_closed c.args.note.now c.args.origin.now _ c.in-Err.field-0 memory c.in-Err.ensures.reads
