use Rattle.tlog_proof.proofs.making.+add_subproof.Given as goal

abbrev pub decreases-add_subproof : goal.decreases-add_subproof
decreases-add_subproof g l = l.len
