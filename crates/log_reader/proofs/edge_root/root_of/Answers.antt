use Rattle.std.proofs.Common.{◌∙◌, sym}
use Rattle.log_reader.proofs.EdgeHashes.{last_none, last_some}
use Rattle.log_reader.proofs.edge_root.root_of.Goals as goal

pub returns-in-Some : goal.returns-in-Some
returns-in-Some g c = λ edge widths is. last_some g.H.TreeHash.digest edge widths c.in-Some.hash (sym is ∙ c.in-Some.is)

pub returns-in-None : goal.returns-in-None
returns-in-None g c = λ edge widths is.
    c.empty.ensures ∙ last_none g.H.TreeHash.digest edge widths (sym is ∙ c.in-None.is)
