use Rattle.tlog_checkpoint.proofs.text.Line.as_str.Goals as goal

pub returns : goal.returns
returns c = cc
