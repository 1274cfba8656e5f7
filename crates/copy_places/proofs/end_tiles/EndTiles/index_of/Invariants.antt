use Rattle.std.proofs.Common.{◌≡◌, ℕ, ◌<◌, get_or}
use Rattle.copy_places.specs.declared.end_tiles.EndTile.{EndTile}
use Rattle.copy_places.proofs.end_tiles.EndTiles.index_of.Given as goal

-- none of the answers so far is that of the place for the path
abbrev pub invariant-loop-i : goal.invariant-loop-i
invariant-loop-i l = (j : ℕ) (d : EndTile) → j < l.i →
    (get_or l.initial.self.tiles.items j d).place ≡ l.place → (get_or l.initial.self.tiles.items j d).path ≡ l.path → ⊥
