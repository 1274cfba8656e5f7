use Rattle.mirror_trees.proofs.ServedParts.{tile_some, tile_none}
use Rattle.tlog_mirror.proofs.mirror.Mirror.found_tile.Goals as goal

pub returns-clause-some : goal.returns-clause-some
returns-clause-some g c =
    tile_some g.H.TreeHash.digest c.args.self.now.view c.in-Some.top c.in-Some.ensures.some (λ bytes. bytes.items)
    c.args.level c.args.index c.args.width c.tile.result c.tile.ensures.within c.tile.ensures.some

pub returns-clause-none : goal.returns-clause-none
returns-clause-none g c =
    tile_none g.H.TreeHash.digest c.args.self.now.view c.in-Some.top c.in-Some.ensures.some (λ bytes. bytes.items)
    c.args.level c.args.index c.args.width c.tile.result c.tile.ensures.none
