use Rattle.tlog_tiles.proofs.paths.PathFromStr.from_str.Goals as goal

pub returns : goal.returns
returns c = c.parse.ensures
