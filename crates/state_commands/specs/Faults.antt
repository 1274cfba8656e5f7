-- The faults of these commands after which text may have been written.
use Rattle.std.specs.Prelude.{⊤}
use Rattle.state_commands.specs.declared.fault.StateRunFault.{StateRunFault}
use Rattle.state_commands.specs.declared.fault.StateRunFault.TheVariants.{WriteFault}

-- the write of the output failed
abbrev pub IsLate : StateRunFault → Type 0
IsLate WriteFault = ⊤
IsLate other = ⊥
