use Rattle.copy_commands.proofs.PlacePerforming.{performed}
use Rattle.copy_commands.proofs.follow.run.Goals as goal

pub returns-in-Ok-places_of-clause-does : goal.returns-in-Ok-places_of-clause-does
returns-in-Ok-places_of-clause-does g c =
    performed _ _ _ _ _ c.args.follow.now c.in-Ok-places_of.places
    (rw (← c.deref.ensures.value) c.in-Ok-places_of.ensures) c.follow_among.result c.follow_among.ensures.does
