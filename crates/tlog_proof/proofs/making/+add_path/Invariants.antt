use Rattle.tlog_proof.proofs.making.+add_path.Given as goal

abbrev pub decreases-add_path : goal.decreases-add_path
decreases-add_path g l = l.len
