use Rattle.tlog_tiles.proofs.PathLemmas.{path_answer_one}
use Rattle.tlog_tiles.proofs.laws.one_path_law.Goals as goal

pub returns : goal.returns
returns c = path_answer_one
