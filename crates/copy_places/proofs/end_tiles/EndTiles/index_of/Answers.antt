use Rattle.std.proofs.Common.{◌<◌, List, [], ◌∷◌, ℕ, length, arith}
use Rattle.copy_places.specs.declared.end_tiles.EndTile.{EndTile}
use Rattle.copy_places.proofs.end_tiles.EndTiles.index_of.Goals as goal

some_tile : (tiles : List EndTile) (at : ℕ) → at < length tiles → EndTile
some_tile [] at lt = absurd (omega (arith, lt))
some_tile (tile ∷ tiles) at lt = tile

pub returns-clause-none : goal.returns-clause-none
returns-clause-none c = λ h.
    let tiles = c.args.self.now.tiles.items in
    let d = some_tile tiles h.at h.listed in
    c.loop-i.invariant h.at d (let lt : h.at < length tiles = h.listed in omega arith) (h.is d).0 (h.is d).1
