-- The faults of `root` and `check` from the faults of their parts.
use Rattle.byte_streams.specs.declared.fault.StreamFault.{StreamFault}
use Rattle.byte_streams.specs.declared.fault.StreamFault.TheVariants as stream
use Rattle.tlog_tiles.specs.declared.bundle.BundleFault.{BundleFault}
use Rattle.tlog_tiles.specs.declared.bundle.BundleFault.TheVariants as bundle
use Rattle.tlog_proof.specs.declared.fault.TextFault.{TextFault}
use Rattle.tlog_proof.specs.declared.fault.TextFault.TheVariants as text
use Rattle.program_io.specs.declared.check.CheckFault.{CheckFault}
use Rattle.program_io.specs.declared.check.CheckFault.TheVariants as check
use Rattle.program_io.specs.declared.root.RootFault.{RootFault}
use Rattle.program_io.specs.declared.root.RootFault.TheVariants as root

-- the fault of `root` if the input is no bundle of this width
abbrev pub root_of_bundle : BundleFault → RootFault
root_of_bundle bundle.BundleShort = root.BundleShort
root_of_bundle bundle.BundleLong = root.BundleLong
root_of_bundle bundle.OutOfMemory = root.OutOfMemory

-- the fault of `root` if a stream failed
abbrev pub root_of_stream : StreamFault → RootFault
root_of_stream stream.ReadFault = root.ReadFault
root_of_stream stream.WriteFault = root.WriteFault
root_of_stream stream.OutOfMemory = root.OutOfMemory

-- the fault of `check` if the input is not the text of a proof
abbrev pub check_of_text : TextFault → CheckFault
check_of_text text.BadProofText = check.BadProofText
check_of_text text.OutOfMemory = check.OutOfMemory

-- the fault of `check` if a stream failed
abbrev pub check_of_stream : StreamFault → CheckFault
check_of_stream stream.ReadFault = check.ReadFault
check_of_stream stream.WriteFault = check.WriteFault
check_of_stream stream.OutOfMemory = check.OutOfMemory
