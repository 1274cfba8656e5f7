use Rattle.std.proofs.Common.{sym, subst, refl}
use Rattle.node_store.specs.Strings.{Has, IsWithout, string_of}
use Rattle.node_store.proofs.Sets.{insert_held}
use Rattle.node_store.proofs.Rests.{noted_either}
use Rattle.node_store.proofs.store.Store.add_noted.Goals as goal

pub returns-else-not-is_same-clause-ok : goal.returns-else-not-is_same-clause-ok
returns-else-not-is_same-clause-ok g c =
    sym (insert_held _ _ (subst (Has c.args.self.now) (c.if-not-is_same.ensures.0 refl) c.in-Some.ensures.some.is_held))

pub returns-in-Ok-clause-noted : goal.returns-in-Ok-clause-noted
returns-in-Ok-clause-noted g c = λ before p.
    let d = g.H.TreeHash.digest in
    subst (λ ds. IsWithout d c.add_new.new.self ds before) (sym c.in-Ok.ensures.items)
    (noted_either d c.args.self.now c.add_new.new.self before c.args.added.now.items c.args.digest.now
    (string_of c.args.string) c.requires
    (λ s h e. c.in-None.ensures.none s (record { is_held = h; digest_is = e })) p c.add_new.result
    c.add_new.ensures.ok c.add_new.ensures.err)
