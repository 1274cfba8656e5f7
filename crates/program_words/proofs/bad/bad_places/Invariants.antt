use Rattle.std.proofs.Common.{◌-◌, length}
use Rattle.program_words.proofs.bad.bad_places.Given as goal

abbrev pub decreases-loop-at : goal.decreases-loop-at
decreases-loop-at l = length l.words - l.at
