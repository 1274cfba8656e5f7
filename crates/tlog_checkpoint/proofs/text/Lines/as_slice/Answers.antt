use Rattle.tlog_checkpoint.proofs.text.Lines.as_slice.Goals as goal

pub returns : goal.returns
returns c = cc
