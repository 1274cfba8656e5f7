use Rattle.std.proofs.lemmas.Bool.Decides.{Decides-eqb}
use Rattle.std.proofs.lemmas.Slice.Eq.{strip_suffix_is}
use Rattle.tlog_tiles.proofs.TextLemmas.{found_only, none_only}
use Rattle.tlog_tiles.proofs.paths.reading.strip_end.Goals as goal

pub returns-clause-found : goal.returns-clause-found
returns-clause-found c =
    found_only _ _ c.strip_suffix.result
    (strip_suffix_is Decides-eqb c.args.bytes.now c.args.suffix.now c.strip_suffix.result c.strip_suffix.ensures.cases)

pub returns-clause-none : goal.returns-clause-none
returns-clause-none c =
    none_only _ _ c.strip_suffix.result
    (strip_suffix_is Decides-eqb c.args.bytes.now c.args.suffix.now c.strip_suffix.result c.strip_suffix.ensures.cases)
