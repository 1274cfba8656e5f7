use Rattle.std.proofs.Common.{sym, subst}
use Rattle.node_store.specs.Strings.{IsWithout}
use Rattle.node_store.proofs.Rests.{rest_none, same_rest}
use Rattle.mirror_trees.proofs.building.add_entries.Goals as goal

pub returns-clause-err : goal.returns-clause-err
returns-clause-err g c =
    let d = g.H.TreeHash.digest in
    let old = c.args.store.now in
    same_rest d c.add_part.new.store c.take_out.new.self old c.add_part.new.added.items
    (subst (λ ds. IsWithout d c.add_part.new.store ds c.take_out.new.self) c.deref.ensures.value
    c.take_out.ensures.rest)
    (c.add_part.ensures.noted old
    (subst (λ ds. IsWithout d old ds old) (sym c.in-Ok.ensures.items) (rest_none d old)))
