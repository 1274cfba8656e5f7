use Rattle.std.proofs.Common.{map}
use Rattle.mirror_model.specs.Answered.{answer_of}
use Rattle.tlog_mirror.proofs.PlayedEvents.{bundle_taken, tile_taken}
use Rattle.tlog_mirror.proofs.items.take_item.Goals as goal

pub returns-in-Tile-clause-takes : goal.returns-in-Tile-clause-takes
returns-in-Tile-clause-takes g c =
    tile_taken g.H.TreeHash.digest
    (map (λ b. (goal.Verifier-dyn g (
      b.vtable,
      b.value,
    )).key b.value) c.args.keys.now) c.args.mirror.now.view c.take_tile.new.self.view c.args.item.now c.in-Tile.width
    c.in-Tile.bytes c.as_slice-in-Tile.result.now (answer_of c.take_tile.result) c.as_slice-in-Tile.ensures
    c.in-Tile.is c.take_tile.ensures.takes

pub returns-in-Bundle-clause-takes : goal.returns-in-Bundle-clause-takes
returns-in-Bundle-clause-takes g c =
    bundle_taken g.H.TreeHash.digest
    (map (λ b. (goal.Verifier-dyn g (
      b.vtable,
      b.value,
    )).key b.value) c.args.keys.now) c.args.mirror.now.view c.take_bundle.new.self.view c.args.item.now c.in-Bundle.width
    c.in-Bundle.bytes c.as_slice-in-Bundle.result.now (answer_of c.take_bundle.result) c.as_slice-in-Bundle.ensures
    c.in-Bundle.is c.take_bundle.ensures.takes
