use Rattle.tlog_mirror.proofs.ComparedHeads.{compares_large}
use Rattle.tlog_mirror.proofs.compare_laws.compare_example.Goals as goal

pub returns : goal.returns
returns c = compares_large
