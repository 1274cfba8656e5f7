use Rattle.std.proofs.Common.{refl, sym, true≢false}
use Rattle.node_store.proofs.Sets.{Has-union_left}
use Rattle.node_store.proofs.store.Store.add_all.Goals as goal

pub returns-then-clashes_with-clause-at_most : goal.returns-then-clashes_with-clause-at_most
returns-then-clashes_with-clause-at_most g c = λ s h. Has-union_left c.args.self.now c.args.other.now s h

pub returns-then-clashes_with-clause-collision : goal.returns-then-clashes_with-clause-collision
returns-then-clashes_with-clause-collision g c = (λ e. c.if-clashes_with.ensures.clashes.0 refl, λ h. refl)

pub add_each-requires-clause-apart : goal.add_each-requires-clause-apart
add_each-requires-clause-apart g c = λ h. true≢false (sym (c.if-clashes_with.ensures.clashes.1 h))

pub returns-clause-collision : goal.returns-clause-collision
returns-clause-collision g c =
    (λ e. absurd (c.add_each.ensures.memory e), λ h. absurd (true≢false (sym (c.if-clashes_with.ensures.clashes.1 h))))

pub returns-clause-kept : goal.returns-clause-kept
returns-clause-kept g c = λ e. absurd (c.add_each.ensures.memory e)
