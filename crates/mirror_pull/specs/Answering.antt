-- The fault of a pull for each fault of a take. Only contracts of private functions cite
-- `refused_of` and `refused_of_fault`.
use Rattle.std.specs.Prelude.{Bool, true, false, Result, Ok, Err}
use Rattle.mirror_model.specs.declared.fault.TakeFault.{TakeFault}
use Rattle.mirror_model.specs.declared.fault.TakeFault.TheVariants as take
use Rattle.mirror_pull.specs.declared.fault.PullFault.{PullFault}
use Rattle.mirror_pull.specs.declared.fault.PullFault.TheVariants as pull

-- the fault of a pull whose tree head was refused
abbrev pub of_take : TakeFault → PullFault
of_take (take.Note f) = pull.Head (take.Note f)
of_take (take.Checkpoint f) = pull.Head (take.Checkpoint f)
of_take take.OtherOrigin = pull.Head take.OtherOrigin
of_take take.NoTrustedSignature = pull.Head take.NoTrustedSignature
of_take take.EdgeCount = pull.Head take.EdgeCount
of_take take.EdgeLength = pull.Head take.EdgeLength
of_take take.EdgeMismatch = pull.Head take.EdgeMismatch
of_take take.RowLength = pull.Head take.RowLength
of_take take.BundleShort = pull.Head take.BundleShort
of_take take.BundleLong = pull.Head take.BundleLong
of_take take.Collision = pull.Collision
of_take take.OutOfMemory = pull.OutOfMemory

-- true if the tile or bundle was refused because it is not valid; otherwise the fault that ends the
-- pull
abbrev pub refused_of_fault : TakeFault → Result Bool PullFault
refused_of_fault (take.Note f) = Ok true
refused_of_fault (take.Checkpoint f) = Ok true
refused_of_fault take.OtherOrigin = Ok true
refused_of_fault take.NoTrustedSignature = Ok true
refused_of_fault take.EdgeCount = Ok true
refused_of_fault take.EdgeLength = Ok true
refused_of_fault take.EdgeMismatch = Ok true
refused_of_fault take.RowLength = Ok true
refused_of_fault take.BundleShort = Ok true
refused_of_fault take.BundleLong = Ok true
refused_of_fault take.Collision = Err pull.Collision
refused_of_fault take.OutOfMemory = Err pull.OutOfMemory

-- whether the answer to a tile or bundle refuses it because it is not valid
abbrev pub refused_of : {T : Type 0} → Result T TakeFault → Result Bool PullFault
refused_of (Ok x) = Ok false
refused_of (Err f) = refused_of_fault f
