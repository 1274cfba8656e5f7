use Rattle.std.proofs.Common.{refl, sym, subst}
use Rattle.copy_places.specs.EndTiles.{HasNoNew}
use Rattle.copy_places.proofs.KeptAnswers.{noted_old}
use Rattle.copy_places.proofs.end_tiles.EndTiles.note.Goals as goal

pub returns-clause-none : goal.returns-clause-none
returns-clause-none c =
    subst (HasNoNew c.args.self.now.tiles.items) (sym c.in_ok-push.ensures.items) (noted_old c.args.self.now.tiles.items _ refl)
