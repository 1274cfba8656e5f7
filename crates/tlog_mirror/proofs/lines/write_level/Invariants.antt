use Rattle.std.proofs.Common.{ℕ, ◌-◌, List, map}
use Rattle.mirror_model.specs.Texts.{path_line}
use Rattle.mirror_trees.specs.Levels.{fresh_from, path_at}
use Rattle.tlog_mirror.specs.MissingLines.{IsLevelOf, level_paths}
use Rattle.tlog_mirror.proofs.WrittenLines.{IsWritten}
use Rattle.tlog_mirror.proofs.lines.write_level.Given as goal

-- the written paths, and those from this number on, are all of the level
abbrev pub invariant-loop-number : goal.invariant-loop-number
invariant-loop-number g l =
    (numbers : List ℕ) → IsLevelOf g.H.TreeHash.digest l.store l.size l.root l.level numbers →
    IsWritten path_line (g.W.Write.contents l.fn.output) (g.W.Write.contents l.output) l.fn.held.items l.held.items
    l.before l.any (level_paths l.size l.level numbers) (map (path_at l.size l.level) (fresh_from l.from numbers))

abbrev pub decreases-loop-number : goal.decreases-loop-number
decreases-loop-number g l = l.size - l.from
