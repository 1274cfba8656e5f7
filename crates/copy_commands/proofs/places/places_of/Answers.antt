use Rattle.std.proofs.Common.{[], subst, sym}
use Rattle.copy_commands.specs.Places.{ArePlacesOf}
use Rattle.copy_commands.proofs.Naming.{all_named, named_more}
use Rattle.copy_commands.proofs.places.places_of.Goals as goal

pub loop-place-init : goal.loop-place-init
loop-place-init g c = subst (ArePlacesOf (g.P.RunPlaces.at c.args.world.now) []) (sym c.new.ensures.list) tt

pub loop-place-preserved : goal.loop-place-preserved
loop-place-preserved g c =
    named_more (g.P.RunPlaces.at c.args.world.now) c.args.words.now c.loop-place.place-index _ c.loop-place-test.true
    c.loop-place.places c.open.result c.open.ensures c.loop-place.invariant c.with_place-places.result
    c.with_place-places.ensures

pub returns : goal.returns
returns g c =
    all_named (g.P.RunPlaces.at c.args.world.now) c.args.words.now c.loop-place.place-index c.loop-place-test.false
    c.loop-place.places c.loop-place.invariant
