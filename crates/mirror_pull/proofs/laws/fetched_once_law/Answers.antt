use Rattle.mirror_pull.proofs.Repeated.{pulls_fetch_files_once}
use Rattle.mirror_pull.proofs.laws.fetched_once_law.Goals as goal

pub returns : goal.returns
returns c = pulls_fetch_files_once
