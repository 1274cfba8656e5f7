use Rattle.std.proofs.Common.{map}
use Rattle.state_commands.proofs.taking.take_item.Goals as goal

pub returns-in-Tile : goal.returns-in-Tile
returns-in-Tile g c =
    rw c.in-Tile.is
    (c.take_tile.ensures
    (map (λ b. (goal.Verifier-dyn g (b.vtable, b.value)).key b.value) c.args.keys.now))

pub returns-in-Bundle : goal.returns-in-Bundle
returns-in-Bundle g c =
    rw c.in-Bundle.is
    (c.take_bundle.ensures
    (map (λ b. (goal.Verifier-dyn g (b.vtable, b.value)).key b.value) c.args.keys.now))
