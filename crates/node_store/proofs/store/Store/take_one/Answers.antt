use Rattle.std.proofs.Common.{◌∷◌, [], subst}
use Rattle.node_store.specs.Strings.{IsWithout}
use Rattle.node_store.specs.Slots.{strings_in}
use Rattle.node_store.proofs.Pools.{strings_less}
use Rattle.node_store.proofs.store.Store.take_one.Goals as goal

pub returns : goal.returns
returns g c =
    let d = g.H.TreeHash.digest in
    let pool = c.self.inside.pool.items in
    subst (λ k. IsWithout d c.args.self.now (k ∷ []) (strings_in pool c.remove.new.self.entries)) c.new.ensures
    (subst (λ v. IsWithout d v (c.new.result ∷ []) (strings_in pool c.remove.new.self.entries)) c.self.view_is
    (strings_less d pool c.self.inside.held c.remove.new.self c.new.result c.self.invariant
    c.remove.ensures.unique c.remove.ensures.updates.0))
