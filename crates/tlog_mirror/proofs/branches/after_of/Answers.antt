use Rattle.std.proofs.Common.{arith}
use Rattle.tlog_mirror.proofs.BranchSteps.{not_begun, one_more, last_is}
use Rattle.tlog_mirror.proofs.branches.after_of.Goals as goal
use Rattle.tlog_mirror.proofs.branches.after_of.Goals.{else-one-via-then-one+else-is_prefix, else-one-via-else-one}

pub returns-then-is_prefix-clause-last : goal.returns-then-is_prefix-clause-last
returns-then-is_prefix-clause-last g c other some there =
    last_is g.H.TreeHash.digest c.args.store.now c.args.before.now c.requires.branches c.args.head c.requires.built
    c.loop-at.at c.loop-at-test.true c.loop-at.auto.at c.index-before-at.result c.index-before-at.is
    c.is_prefix.result c.is_prefix.ensures c.if-is_prefix.true c.if-one.true _ (omega arith) other there

pub loop-at-preserved : goal.loop-at-preserved
loop-at-preserved g c =
    one_more g.H.TreeHash.digest c.args.store.now c.args.before.now c.requires.branches c.args.head c.requires.built
    c.loop-at.at c.loop-at-test.true c.loop-at.auto.at c.index-before-at.result c.index-before-at.is
    (λ whole. elim c.else-one.branch [
      | else-one-via-then-one+else-is_prefix w ↦
          not_begun g.H.TreeHash.digest c.args.store.now c.args.before.now c.requires.branches c.args.head
          c.requires.built c.loop-at.at c.loop-at-test.true c.loop-at.auto.at c.index-before-at.result
          c.index-before-at.is w.is_prefix.result w.is_prefix.ensures w.if-is_prefix.false whole
      | else-one-via-else-one w ↦ absurd (cc (whole, w.if-one.false))
    ])
    c.loop-at.invariant
