use Rattle.std.proofs.Common.{arith, append_assoc, rules}
use Rattle.tlog_hash.proofs.Trees.{fold_of-single, fold_of-parts, pairs_of-single, pairs_of-parts}
use Rattle.tlog_hash.proofs.tree.+add_pairs.Goals as goal

pub returns-then-row-eq1-clause-hash : goal.returns-then-row-eq1-clause-hash
returns-then-row-eq1-clause-hash g t c = fold_of-single g.H.TreeHash.digest c.args.row.now c.if-row-eq1.true

pub returns-then-row-eq1-clause-pairs : goal.returns-then-row-eq1-clause-pairs
returns-then-row-eq1-clause-pairs g t c =
    rw (pairs_of-single g.H.TreeHash.digest c.args.row.now c.if-row-eq1.true) (search rules)

pub returns-clause-hash : goal.returns-clause-hash
returns-clause-hash g t c =
    rw (c.node.ensures, c.in_ok-left.ensures.hash, c.in_ok-right.ensures.hash)
    (fold_of-parts g.H.TreeHash.digest c.args.row.now c.split-k.result (omega arith) c.split-k.ensures.value)

pub returns-clause-pairs : goal.returns-clause-pairs
returns-clause-pairs g t c =
    rw (
      c.in_ok-push.ensures.items,
      c.in_ok-right.ensures.pairs,
      c.in_ok-left.ensures.pairs,
      ← pairs_of-parts g.H.TreeHash.digest c.args.row.now c.split-k.result c.in_ok-left.left c.in_ok-right.right
          (omega arith) c.split-k.ensures.value c.in_ok-left.ensures.hash c.in_ok-right.ensures.hash,
    )
    (simp append_assoc)
