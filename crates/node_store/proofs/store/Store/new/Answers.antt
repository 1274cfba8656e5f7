use Rattle.std.proofs.Common.{ap}
use Rattle.node_store.specs.Slots.{strings_in}
use Rattle.node_store.proofs.store.Store.new.Goals as goal

pub returns : goal.returns
returns g c = ap (strings_in c.new-2.result.items) c.new.ensures.empty
