use Rattle.std.proofs.Common.{◌+◌, []}
use Rattle.tlog_mirror.proofs.SettledHeads.{done_more, gains_more, gains_all, all_done}
use Rattle.tlog_mirror.proofs.settle.settle_all.Goals as goal

pub loop-head-preserved : goal.loop-head-preserved
loop-head-preserved g c = record {
  done = done_more g.H.TreeHash.digest c.args.store.now c.args.heads.now c.loop-head.head-index c.loop-head-test.true
      (0, []) c.loop-head.known.remembered c.settle.new.known.remembered c.settle.ensures.at_least c.loop-head.invariant.done
      c.in_ok-settle.ensures.done;
  gains = gains_more g.H.TreeHash.digest c.args.store.now c.args.heads.now c.loop-head.head-index c.loop-head-test.true
      (0, []) c.loop-head.known.remembered c.settle.new.known.remembered c.settle.ensures.at_least c.args.known.now.remembered
      c.loop-head.invariant.gains c.settle.ensures.at_most c.settle.ensures.settled;
  known = c.settle.ensures.known;
}

pub returns-clause-done : goal.returns-clause-done
returns-clause-done g c =
    all_done g.H.TreeHash.digest c.args.store.now c.args.heads.now c.loop-head.head-index c.loop-head-test.false
    c.loop-head.known.remembered c.loop-head.invariant.done

pub returns-clause-gains : goal.returns-clause-gains
returns-clause-gains g c =
    gains_all g.H.TreeHash.digest c.args.store.now c.args.heads.now c.loop-head.head-index c.args.known.now.remembered
    c.loop-head.known.remembered c.loop-head.invariant.gains

pub returns-in_err-settle-clause-gains : goal.returns-in_err-settle-clause-gains
returns-in_err-settle-clause-gains g c =
    gains_all g.H.TreeHash.digest c.args.store.now c.args.heads.now (c.loop-head.head-index + 1)
    c.args.known.now.remembered c.settle.new.known.remembered
    (gains_more g.H.TreeHash.digest c.args.store.now c.args.heads.now c.loop-head.head-index c.loop-head-test.true
    (0, []) c.loop-head.known.remembered c.settle.new.known.remembered c.settle.ensures.at_least
    c.args.known.now.remembered c.loop-head.invariant.gains c.settle.ensures.at_most c.settle.ensures.settled)
