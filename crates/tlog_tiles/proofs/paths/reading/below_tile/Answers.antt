use Rattle.tlog_tiles.specs.Path.{HasNoSlash}
use Rattle.tlog_tiles.proofs.TextLemmas.{none_then, not_below}
use Rattle.tlog_tiles.proofs.paths.reading.below_tile.Goals as goal

pub returns-clause-none : goal.returns-clause-none
returns-clause-none c =
    none_then (HasNoSlash c.in_ok-rest.rest.now) _ c.cut_first.result c.cut_first.ensures.none
    (λ none second tail. not_below c.args.bytes.now c.in_ok-rest.rest.now second tail c.in_ok-rest.ensures.found none)
