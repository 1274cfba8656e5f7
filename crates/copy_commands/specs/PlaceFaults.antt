-- The faults of the commands over places after which text may have been written.
use Rattle.std.specs.Prelude.{⊤}
use Rattle.program_copies.specs.declared.follow_fault.FollowRunFault.TheVariants as follow
use Rattle.program_copies.specs.declared.repair_fault.RepairRunFault.TheVariants as repair
use Rattle.program_copies.specs.declared.entries_fault.AuditRunFault.TheVariants as audit
use Rattle.copy_commands.specs.declared.place_fault.PlaceRunFault.{PlaceRunFault}
use Rattle.copy_commands.specs.declared.place_fault.PlaceRunFault.TheVariants.{Audit, Follow, Repair}

-- a write failed, or the evidence was not put, which does not keep the text from being written. Of a run with a repair each fault after
-- the repair, whose line comes first
abbrev pub IsLate : PlaceRunFault → Type 0
IsLate (Follow follow.WriteFault) = ⊤
IsLate (Follow (follow.Evidence fault)) = ⊤
IsLate (Follow (follow.EvidenceAndOutput fault)) = ⊤
IsLate (Repair (repair.Repair fault)) = ⊤
IsLate (Repair (repair.RepairAndOutput fault)) = ⊤
IsLate (Repair (repair.Followed fault)) = ⊤
IsLate (Repair (repair.Unprinted fault)) = ⊤
IsLate (Audit audit.WriteFault) = ⊤
IsLate other = ⊥
