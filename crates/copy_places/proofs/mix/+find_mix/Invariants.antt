use Rattle.std.proofs.Common.{length}
use Rattle.copy_places.proofs.mix.+find_mix.Given as goal

abbrev pub decreases-find_mix : goal.decreases-find_mix
decreases-find_mix g l = length l.levels.now
