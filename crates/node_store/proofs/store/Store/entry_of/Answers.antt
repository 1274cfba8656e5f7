use Rattle.node_store.proofs.store.Store.entry_of.Goals as goal

pub returns-in-Some-Leaf-clause-none : goal.returns-in-Some-Leaf-clause-none
returns-in-Some-Leaf-clause-none g c = tt
