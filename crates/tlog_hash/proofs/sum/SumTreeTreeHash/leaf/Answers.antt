use Rattle.std.proofs.Common.{◌∷◌, ◌∙◌}
use Rattle.tlog_hash.proofs.Sums.{sum_digest-is, sum-leaf}
use Rattle.tlog_hash.proofs.sum.SumTreeTreeHash.leaf.Goals as goal

pub returns : goal.returns
returns c =
    c.digest_of.ensures ∙ sum_digest-is (0 ∷ c.args.entry.now) _ (c.sum_from.ensures ∙ sum-leaf c.args.entry.now)
