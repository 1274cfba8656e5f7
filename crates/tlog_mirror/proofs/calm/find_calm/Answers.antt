use Rattle.std.proofs.Common.{◌∙◌, ◌-◌}
use Rattle.std.proofs.lemmas.List.{length-set}
use Rattle.tlog_mirror.proofs.CalmHeads.{least_more, recorded_more}
use Rattle.tlog_mirror.proofs.calm.find_calm.Goals as goal

pub loop-at-preserved : goal.loop-at-preserved
loop-at-preserved c = record {
  len = length-set c.loop-at.calm (c.loop-at.at - 1) c.is_calm.result ∙ c.loop-at.invariant.len;
  least =
      least_more c.args.branches.now c.requires.rising c.loop-at.at c.loop-at-test.true c.loop-at.auto.at
      c.loop-at.least c.loop-at.invariant.least c.index-branches-at.result c.index-branches-at.is c.least_after-least.result
      c.least_after-least.ensures.least c.least_after-least.ensures.own;
  recorded =
      recorded_more c.args.branches.now c.requires.rising c.loop-at.at c.loop-at-test.true c.loop-at.auto.at
      c.loop-at.least c.loop-at.invariant.least c.loop-at.calm c.loop-at.invariant.len c.is_calm.result
      c.is_calm.ensures.least c.is_calm.ensures.sizes c.loop-at.invariant.recorded;
}
