use Rattle.copy_places.specs.EndTiles.{IsEndTile, IsKeptAnswer}
use Rattle.copy_places.proofs.AskingOnce.{more_one}
use Rattle.copy_places.proofs.TrueAnswers.{ok_weaker}
use Rattle.copy_places.proofs.places.Places.end_tile.Goals as goal

pub returns-in-None-clause-more : goal.returns-in-None-clause-more
returns-in-None-clause-more g c =
    more_one g.S.Source.asked c.args.index c.args.path.now c.args.self.now c.get.new.self c.requires.end
    (rw c.in-None.is at c.in_ok-answer.ensures.none) c.get.ensures.once

pub returns-in-None-clause-kept : goal.returns-in-None-clause-kept
returns-in-None-clause-kept g c =
    ok_weaker c.get.result
    (λ answer. IsEndTile c.args.self.now.ends.sizes c.args.path.now
    → IsKeptAnswer c.get.new.self.ends.tiles.items c.args.index c.args.path.now answer)
    (IsKeptAnswer c.get.new.self.ends.tiles.items c.args.index c.args.path.now) (λ answer kept. kept c.requires.end)
    c.get.ensures.kept
