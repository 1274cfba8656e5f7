use Rattle.tlog_checkpoint.proofs.text.Line.into_string.Goals as goal

pub returns : goal.returns
returns c = c.self.view_is
