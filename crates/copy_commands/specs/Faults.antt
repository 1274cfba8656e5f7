-- The faults of the commands over a state or a copy after which text may have been written.
use Rattle.std.specs.Prelude.{⊤}
use Rattle.program_copies.specs.Printed.{IsWriteFault as IsPrintFault}
use Rattle.program_io.specs.Ports.{IsPortWritten}
use Rattle.program_copies.specs.declared.entries_fault.CopyEntriesFault.TheVariants as copied
use Rattle.program_copies.specs.declared.entries_fault.StateEntriesFault.TheVariants as entries
use Rattle.program_reports.specs.declared.fault.AskFault.TheVariants as ask
use Rattle.program_io.specs.declared.root.RootFault.TheVariants as root
use Rattle.program_io.specs.declared.check.CheckFault.TheVariants as check
use Rattle.copy_commands.specs.declared.fault.ReportRunFault.{ReportRunFault}
use Rattle.copy_commands.specs.declared.fault.ReportRunFault.TheVariants.{Ask, Check, Copy, CopyEntries, Listen, Root, StateEntries}

-- a write failed; entries failed while they were written; a port failed, maybe after its line was written
abbrev pub IsLate : ReportRunFault → Type 0
IsLate (StateEntries entries.WriteFault) = ⊤
IsLate (StateEntries entries.OutOfMemory) = ⊤
IsLate (Root root.WriteFault) = ⊤
IsLate (Check check.WriteFault) = ⊤
IsLate (Ask ask.WriteFault) = ⊤
IsLate (CopyEntries copied.WriteFault) = ⊤
IsLate (CopyEntries (copied.CopyDamaged path)) = ⊤
IsLate (CopyEntries copied.ShelfFault) = ⊤
IsLate (CopyEntries copied.OutOfMemory) = ⊤
IsLate (Copy fault) = IsPrintFault fault
IsLate (Listen fault) = IsPortWritten fault
IsLate other = ⊥
