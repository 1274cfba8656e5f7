use Rattle.tlog_mirror.proofs.ComparedHeads.{compared_once, fork_is_no_prefix, same_is_prefix}
use Rattle.tlog_mirror.proofs.compare_laws.compare_law.Goals as goal

pub returns-clause-fork : goal.returns-clause-fork
returns-clause-fork c = fork_is_no_prefix

pub returns-clause-same : goal.returns-clause-same
returns-clause-same c = same_is_prefix

pub returns-clause-one : goal.returns-clause-one
returns-clause-one c = compared_once
