use Rattle.tlog_tiles.proofs.PathLemmas.{paths_spelled}
use Rattle.tlog_tiles.proofs.laws.spelling_law.Goals as goal

pub returns : goal.returns
returns c = paths_spelled
