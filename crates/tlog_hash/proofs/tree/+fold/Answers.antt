use Rattle.std.proofs.Common.{arith}
use Rattle.tlog_hash.proofs.Trees.{fold_of-single, fold_of-parts}
use Rattle.tlog_hash.proofs.tree.+fold.Goals as goal

pub returns-then-row-eq1 : goal.returns-then-row-eq1
returns-then-row-eq1 g t c = fold_of-single g.H.TreeHash.digest c.args.row.now c.if-row-eq1.true

pub returns : goal.returns
returns g t c =
    rw (c.node.ensures, c.fold-left.ensures, c.fold-right.ensures)
    (fold_of-parts g.H.TreeHash.digest c.args.row.now c.split-k.result (omega arith) c.split-k.ensures.value)
