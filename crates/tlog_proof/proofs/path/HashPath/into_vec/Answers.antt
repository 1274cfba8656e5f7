use Rattle.tlog_proof.proofs.path.HashPath.into_vec.Goals as goal

pub returns : goal.returns
returns c = c.self.view_is
