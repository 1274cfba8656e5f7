use Rattle.tlog_proof.proofs.path.HashPath.as_slice.Goals as goal

pub returns : goal.returns
returns c = cc
