use Rattle.std.proofs.Common.{get_or, false, ◌++◌, ◌∙◌, ◌+◌, drop, length, ap, sym}
use Rattle.tlog_mirror.specs.Branches.{all_forks, forks_from}
use Rattle.tlog_mirror.proofs.ForkSteps.{all_step, all_end, from_length, listed, listed_all}
use Rattle.tlog_mirror.proofs.fork_search.list_forks.Goals as goal

pub loop-at-preserved : goal.loop-at-preserved
loop-at-preserved c =
    let all = c.args.branches.now in
    let at = c.loop-at.at in
    let marks = c.loop-at.marks in
    let calm = c.args.calm.now in
    let quiet = get_or c.args.calm.now c.loop-at.at false in
    let after = c.in_ok-push_forks.ensures.marks in
    record {
      len =
          ap length after ∙ (from_length quiet at marks (drop at all) ∙ c.loop-at.invariant.len);
      forks =
          listed c.loop-at.forks.items (forks_from quiet at marks (drop at all)) _ c.push_forks.new.forks.items _
          (ap (λ fs. c.loop-at.forks.items ++ fs)
          (ap (λ ms. forks_from quiet at marks (drop at all) ++ all_forks calm (at + 1) ms (drop (at + 1) all)) after
          ∙ sym (all_step all calm at marks c.loop-at-test.true))
          ∙ c.loop-at.invariant.forks)
          c.in_ok-push_forks.ensures.forks;
    }

pub returns : goal.returns
returns c =
    listed_all c.loop-at.forks.items _ _ c.loop-at.invariant.forks
    (all_end c.args.branches.now c.args.calm.now c.loop-at.at c.loop-at.marks c.loop-at-test.false)
