use Rattle.std.proofs.Common.{All}
use Rattle.copy_places.specs.Hints.{IsHinted}
use Rattle.copy_places.proofs.ahead.push_tiles.Given as goal

-- only such files were added
abbrev pub invariant-loop-done : goal.invariant-loop-done
invariant-loop-done l = All IsHinted l.fn.paths.items → All IsHinted l.paths.items
