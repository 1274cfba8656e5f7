use Rattle.std.proofs.Common.{◌+◌, ◌%◌, sum, ◌∷◌, ◌++◌, ◌∙◌, ap}
use Rattle.tlog_hash.proofs.Sums.{sum_digest-is, sum-node}
use Rattle.tlog_hash.proofs.sum.SumTreeTreeHash.node.Goals as goal

pub returns : goal.returns
returns c =
    c.digest_of.ensures
    ∙ sum_digest-is (1 ∷ c.args.left.now ++ c.args.right.now) _
    (c.sum_from-2.ensures ∙ ap (λ n. (n + sum c.args.right.now) % 256) c.sum_from.ensures ∙
    sum-node c.args.left.now c.args.right.now)
