-- The fault of a build for each fault of its calls. OutOfMemory has only one variant.
use Rattle.byte_streams.specs.declared.fault.StreamFault.{StreamFault}
use Rattle.byte_streams.specs.declared.fault.StreamFault.TheVariants as stream
use Rattle.tlog_mirror.specs.declared.fault.NewFault.{NewFault}
use Rattle.tlog_mirror.specs.declared.fault.NewFault.TheVariants as new
use Rattle.mirror_pull.specs.declared.fault.PullFault.{PullFault}
use Rattle.mirror_pull.specs.declared.fault.PullFault.TheVariants as pull
use Rattle.mirror_files.specs.declared.export_fault.ExportFault.{ExportFault}
use Rattle.mirror_files.specs.declared.export_fault.ExportFault.TheVariants as export
use Rattle.state_commands.specs.declared.entries.EntriesFault.{EntriesFault}
use Rattle.state_commands.specs.declared.entries.EntriesFault.TheVariants as entries
use Rattle.state_commands.specs.declared.build_fault.BuildFault.{BuildFault}
use Rattle.state_commands.specs.declared.build_fault.BuildFault.TheVariants.{BadOrigin, Pull, Export}
use Rattle.state_commands.specs.declared.build_fault.BuildFault.TheVariants.{OutOfMemory}

-- the fault of a build whose mirror could not be made
abbrev pub of_new : NewFault → BuildFault
of_new new.BadOrigin = BadOrigin
of_new new.OutOfMemory = OutOfMemory

-- the fault of a build whose pull failed
abbrev pub of_pull : PullFault → BuildFault
of_pull pull.OutOfMemory = OutOfMemory
of_pull fault = Pull fault

-- the fault of a build whose export failed
abbrev pub of_export : ExportFault → BuildFault
of_export export.OutOfMemory = OutOfMemory
of_export fault = Export fault

-- the fault of the reader of entries whose input could not be read; nothing is written, so a failed
-- write counts as a failed read
abbrev pub entries_of_stream : StreamFault → EntriesFault
entries_of_stream stream.ReadFault = entries.ReadFault
entries_of_stream stream.WriteFault = entries.ReadFault
entries_of_stream stream.OutOfMemory = entries.OutOfMemory
