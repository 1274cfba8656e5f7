use Rattle.std.proofs.Common.{Option}
use Rattle.tlog_proof.specs.declared.proof.Proof.{Proof}
use Rattle.copy_follow.specs.RunStanding.{LacksLog}
use Rattle.copy_follow.proofs.CopyReads.{fault_counts, fault_ends, lacks_log}
use Rattle.copy_follow.proofs.compare.take_smaller.Goals as goal

pub returns-in-Err-clause-counted : goal.returns-in-Err-clause-counted
returns-in-Err-clause-counted g c =
    rw (c.fault_of_copy.ensures.failed, c.fault_of_copy.ensures.fault)
    (fault_counts (Option Proof) _ _ c.in-Err.fault c.in-Err.ensures.counted)

pub returns-in-Err-clause-ends : goal.returns-in-Err-clause-ends
returns-in-Err-clause-ends g c =
    let digest = g.H.TreeHash.digest in
    let copy = c.args.copy.now in
    let x = g.D.Shelf.puts c.args.shelf.now in
    let e = c.in-Err.fault in
    rw c.fault_of_copy.ensures.fault (fault_ends (Option Proof) (LacksLog digest copy x) _ _ e c.in-Err.ensures.counted
    (lacks_log digest (Option Proof) copy x e c.in-Err.ensures.honest))
