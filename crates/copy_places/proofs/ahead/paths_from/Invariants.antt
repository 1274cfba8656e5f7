use Rattle.std.proofs.Common.{All}
use Rattle.copy_places.specs.Hints.{IsHinted}
use Rattle.copy_places.proofs.ahead.paths_from.Given as goal

-- only such files were added
abbrev pub invariant-loop-index : goal.invariant-loop-index
invariant-loop-index l = All IsHinted l.paths.items
