use Rattle.std.proofs.lemmas.Bool.Decides.{Decides-eqb}
use Rattle.std.proofs.lemmas.Slice.Eq.{strip_prefix_is}
use Rattle.tlog_tiles.proofs.TextLemmas.{found_only, none_only}
use Rattle.tlog_tiles.proofs.paths.reading.strip_start.Goals as goal

pub returns-clause-found : goal.returns-clause-found
returns-clause-found c =
    found_only _ _ c.strip_prefix.result
    (strip_prefix_is Decides-eqb c.args.bytes.now c.args.prefix.now c.strip_prefix.result c.strip_prefix.ensures.cases)

pub returns-clause-none : goal.returns-clause-none
returns-clause-none c =
    none_only _ _ c.strip_prefix.result
    (strip_prefix_is Decides-eqb c.args.bytes.now c.args.prefix.now c.strip_prefix.result c.strip_prefix.ensures.cases)
