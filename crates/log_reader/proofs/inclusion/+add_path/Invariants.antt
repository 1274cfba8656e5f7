use Rattle.log_reader.proofs.inclusion.+add_path.Given as goal

abbrev pub decreases-add_path : goal.decreases-add_path
decreases-add_path g l = l.node.1
