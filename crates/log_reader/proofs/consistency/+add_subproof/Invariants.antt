use Rattle.log_reader.proofs.consistency.+add_subproof.Given as goal

abbrev pub decreases-add_subproof : goal.decreases-add_subproof
decreases-add_subproof g l = l.node.1
