use Rattle.mirror_trees.proofs.BestNotes.{first_at, none_more, none_at_all, other_size, other_root, same_root}
use Rattle.mirror_trees.proofs.best.first_with.Goals as goal
use Rattle.mirror_trees.proofs.best.first_with.Goals.{else-one-size-via-then-one-size+else-eq}
use Rattle.mirror_trees.proofs.best.first_with.Goals.{else-one-size-via-else-one-size}

pub returns-then-eq-clause-some : goal.returns-then-eq-clause-some
returns-then-eq-clause-some c =
    first_at c.args.kept.now c.args.size c.args.root.now c.loop-one.one-index c.one-item.result c.loop-one-test.true
    c.one-item.is c.loop-one.invariant c.if-one-size.true
    (same_root c.one-item.result.root c.args.root.now c.eq.result c.eq.ensures c.if-eq.true)

pub loop-one-preserved : goal.loop-one-preserved
loop-one-preserved c =
    none_more c.args.kept.now c.args.size c.args.root.now c.loop-one.one-index c.one-item.result c.loop-one-test.true
    c.one-item.is c.loop-one.invariant
    (elim c.else-one-size.branch [
      | else-one-size-via-then-one-size+else-eq w ↦ other_root c.args.kept.now c.args.size c.args.root.now
          c.one-item.result w.eq.result w.eq.ensures w.if-eq.false
      | else-one-size-via-else-one-size w ↦
          other_size c.args.kept.now c.args.size c.args.root.now c.one-item.result w.if-one-size.false
    ])

pub returns-clause-none : goal.returns-clause-none
returns-clause-none c =
    none_at_all c.args.kept.now c.args.size c.args.root.now c.loop-one.one-index c.loop-one-test.false
    c.loop-one.invariant
