use Rattle.std.proofs.Common.{[], refl, ◌∙◌}
use Rattle.tlog_hash.proofs.Sums.{sum_digest-is}
use Rattle.tlog_hash.proofs.sum.SumTreeTreeHash.empty.Goals as goal

pub returns : goal.returns
returns c = c.digest_of.ensures ∙ sum_digest-is [] 0 refl
