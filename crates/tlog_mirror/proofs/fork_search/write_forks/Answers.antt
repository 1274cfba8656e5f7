use Rattle.std.proofs.Common.{◌≡◌, List, length, subst, sym, rules}
use Rattle.tlog_mirror.specs.Branches.{AreCalm}
use Rattle.tlog_mirror.specs.declared.branches.Branch.{Branch}
use Rattle.tlog_mirror.proofs.ReportedForks.{found_written}
use Rattle.tlog_mirror.proofs.fork_search.write_forks.Goals as goal

pub returns : goal.returns
returns g c =
    let marks = c.as_mut_slice.result.now in
    let branches = c.in_ok-branches.branches.items in
    let calm = c.as_slice-2.result.now in
    let are_calm =
    subst (λ (bs : List Branch). AreCalm bs calm) c.as_slice.ensures.value
    (subst (AreCalm c.as_slice.result.now) (sym c.as_slice-2.ensures.value) c.in_ok-calm.ensures.calm) in
    let len : length c.as_mut_slice.result.now ≡ length c.as_slice-3.result.now = search rules in
    found_written g.H.TreeHash.digest c.args.store.now c.args.points.now c.requires.rising
    branches c.in_ok-branches.ensures.each c.in_ok-branches.ensures.heads c.as_slice-3.result.now
    c.as_slice-3.ensures.value calm are_calm marks len
    (g.W.Write.contents c.args.output.now) (g.W.Write.contents c.write_all.new.output) c.write_all.result
    c.write_all.ensures.ok c.write_all.ensures.err c.write_all.ensures.any c.write_all.ensures.fault
