use Rattle.log_reader.proofs.FullTiles.{has_first_tiles}
use Rattle.log_reader.proofs.laws.first_tiles_law.Goals as goal

pub returns : goal.returns
returns g c = has_first_tiles g.H.TreeHash.digest (g.S.Source.may_answer c.args._source.now)
