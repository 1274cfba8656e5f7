-- An origin that a command refuses.
use Rattle.std.specs.Prelude.{ℕ, List, ⊤}
use Rattle.mirror_model.specs.Origin.{IsOrigin}
use Rattle.tlog_mirror.specs.declared.fault.NewFault.{NewFault}
use Rattle.tlog_mirror.specs.declared.fault.NewFault.TheVariants as made

-- the origin is refused: it is no origin, or memory was refused
abbrev pub RefusesOrigin : List ℕ → NewFault → Type 0
RefusesOrigin origin made.BadOrigin = ¬ IsOrigin origin
RefusesOrigin origin made.OutOfMemory = ⊤
