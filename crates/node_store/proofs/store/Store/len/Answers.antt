use Rattle.std.proofs.Common.{ap, ◌∙◌, sym}
use Rattle.std.specs.FinSet as set
use Rattle.node_store.proofs.Pools.{len-strings_in}
use Rattle.node_store.proofs.store.Store.len.Goals as goal

pub returns : goal.returns
returns g c =
    c.len.ensures.len ∙
    sym (len-strings_in g.H.TreeHash.digest c.self.inside.pool.items c.self.inside.held c.self.invariant) ∙
    ap set.len c.self.view_is
