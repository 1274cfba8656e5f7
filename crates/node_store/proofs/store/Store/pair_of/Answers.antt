use Rattle.std.proofs.Common.{subst}
use Rattle.node_store.specs.Strings.{IsHeldAt, string_of}
use Rattle.node_store.proofs.store.Store.pair_of.Goals as goal

pub returns-in-Some-Pair-clause-some : goal.returns-in-Some-Pair-clause-some
returns-in-Some-Pair-clause-some g c =
    subst (λ s. IsHeldAt g.H.TreeHash.digest c.args.self.now c.args.hash.now (string_of s)) c.in-Some-Pair.field-0-is
    c.in-Some-Pair.ensures.some
