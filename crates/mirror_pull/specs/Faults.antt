-- The fault of a pull for each fault of its source.
use Rattle.mirror_sources.specs.declared.source.SourceFault.{SourceFault}
use Rattle.mirror_sources.specs.declared.source.SourceFault.TheVariants as source
use Rattle.mirror_pull.specs.declared.fault.PullFault.{PullFault}
use Rattle.mirror_pull.specs.declared.fault.PullFault.TheVariants.{Source, OutOfMemory}

-- the fault of the source as a fault of a pull
abbrev pub of_source : SourceFault → PullFault
of_source source.Failed = Source
of_source source.OutOfMemory = OutOfMemory
