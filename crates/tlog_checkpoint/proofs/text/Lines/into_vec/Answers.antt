use Rattle.tlog_checkpoint.proofs.text.Lines.into_vec.Goals as goal

pub returns : goal.returns
returns c = c.self.view_is
