-- The kinds of answers of a mirror's calls.
use Rattle.std.specs.Prelude.{Result, Ok, Err}
use Rattle.mirror_model.specs.Steps.{Answer, Done, Refused, Clashed, Exhausted}
use Rattle.mirror_model.specs.declared.fault.TakeFault.{TakeFault}
use Rattle.mirror_model.specs.declared.fault.TakeFault.TheVariants as taking
use Rattle.mirror_model.specs.declared.fault.MergeFault.{MergeFault}
use Rattle.mirror_model.specs.declared.fault.MergeFault.TheVariants as merging

-- the kind of the answer to a take: done, refused because of the item, a collision, or out of
-- memory
abbrev pub answer_of : Result (Unit {0}) TakeFault → Answer
answer_of (Ok done) = Done
answer_of (Err (taking.Note fault)) = Refused
answer_of (Err (taking.Checkpoint fault)) = Refused
answer_of (Err taking.OtherOrigin) = Refused
answer_of (Err taking.NoTrustedSignature) = Refused
answer_of (Err taking.EdgeCount) = Refused
answer_of (Err taking.EdgeLength) = Refused
answer_of (Err taking.EdgeMismatch) = Refused
answer_of (Err taking.RowLength) = Refused
answer_of (Err taking.BundleShort) = Refused
answer_of (Err taking.BundleLong) = Refused
answer_of (Err taking.Collision) = Clashed
answer_of (Err taking.OutOfMemory) = Exhausted

-- the kind of the answer to a merge: done, refused because the other mirror has another origin, a
-- collision, or out of memory
abbrev pub merge_answer_of : Result (Unit {0}) MergeFault → Answer
merge_answer_of (Ok done) = Done
merge_answer_of (Err merging.OtherOrigin) = Refused
merge_answer_of (Err merging.Collision) = Clashed
merge_answer_of (Err merging.OutOfMemory) = Exhausted

-- the fault of a merge as a fault of takes, so that one list can have the answers to both kinds of
-- events
abbrev pub take_fault_of : MergeFault → TakeFault
take_fault_of merging.OtherOrigin = taking.OtherOrigin
take_fault_of merging.Collision = taking.Collision
take_fault_of merging.OutOfMemory = taking.OutOfMemory
