use Rattle.std.proofs.Common.{length, ap, ◌∙◌, sym, subst}
use Rattle.std.proofs.lemmas.List.{length-map}
use Rattle.std.specs.FinSet as set
use Rattle.node_store.specs.Strings.{NoClash, AllTagged}
use Rattle.node_store.specs.Slots.{held_string}
use Rattle.node_store.proofs.Pools.{all_within, len-strings_in, no_clash, all_tagged}
use Rattle.node_store.proofs.store.Store.iter.Goals as goal

pub new-requires : goal.new-requires
new-requires g c =
    rw (c.as_slice.ensures.value, c.values.ensures.rest)
    (all_within g.H.TreeHash.digest c.self.inside.pool.items c.self.inside.held c.self.invariant)

pub returns-clause-once : goal.returns-clause-once
returns-clause-once g c =
    ap length c.new.ensures ∙ length-map c.values.result (held_string c.as_slice.result.now) ∙ c.values.ensures.len
    ∙ sym (len-strings_in g.H.TreeHash.digest c.self.inside.pool.items c.self.inside.held c.self.invariant) ∙
    ap set.len c.self.view_is

pub returns-clause-no_clash : goal.returns-clause-no_clash
returns-clause-no_clash g c =
    subst (NoClash g.H.TreeHash.digest) c.self.view_is
    (no_clash g.H.TreeHash.digest c.self.inside.pool.items c.self.inside.held c.self.invariant)

pub returns-clause-tagged : goal.returns-clause-tagged
returns-clause-tagged g c =
    subst AllTagged c.self.view_is
    (all_tagged g.H.TreeHash.digest c.self.inside.pool.items c.self.inside.held c.self.invariant)
