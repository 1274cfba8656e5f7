use Rattle.std.proofs.Common.{ap, ◌∙◌}
use Rattle.mirror_trees.proofs.LeafRows.{at_some}
use Rattle.mirror_trees.specs.HeldLeaves.{HasLeaves}
use Rattle.tlog_tiles.specs.Row.{row_text}
use Rattle.mirror_trees.proofs.HeldLeaves.{tile_is, tile_within}
use Rattle.mirror_trees.proofs.top_ranges.TopRanges.tile.Goals as goal

pub returns-in-Some-clause-some : goal.returns-in-Some-clause-some
returns-in-Some-clause-some g c = rw (← c.self.view_is) (λ entries tree.
    let top = c.self.inside in
    let has : HasLeaves g.H.TreeHash.digest top.strings.now top.size top.root c.in-Some.leaves =
    at_some top.leaves c.in-Some.leaves _ c.in-Some.is c.self.invariant.1 in
    c.in_ok-write_row.ensures.text ∙
    tile_is g.H.TreeHash.digest top.strings.now top.size top.root c.in-Some.leaves has
    g.met.H.TreeHash.digest_length c.self.invariant.0.no_clash entries tree c.args.index c.args.width c.args.level
    c.if-level-eq0.true c.as_slice.result.now c.in-Some-part_at.row.now c.as_slice.ensures.value
    c.in-Some-part_at.ensures.within c.in-Some-part_at.ensures.some)

pub returns-in-Some-clause-within : goal.returns-in-Some-clause-within
returns-in-Some-clause-within g c = rw (← c.self.view_is) (
    let top = c.self.inside in
    let has : HasLeaves g.H.TreeHash.digest top.strings.now top.size top.root c.in-Some.leaves =
    at_some top.leaves c.in-Some.leaves _ c.in-Some.is c.self.invariant.1 in
    tile_within g.H.TreeHash.digest top.strings.now top.size top.root c.in-Some.leaves has c.args.level c.args.index
    c.args.width c.if-level-eq0.true c.as_slice.result.now c.as_slice.ensures.value c.in-Some-part_at.ensures.within)

pub returns-clause-some : goal.returns-clause-some
returns-clause-some g c = rw (← c.self.view_is) (λ entries tree.
    c.in_ok-write_row-2.ensures.text ∙ ap row_text (c.as_slice-2.ensures.value ∙
    at_some c.in_ok-row.field-0 c.in-Some-2.row _ c.in-Some-2.is c.in_ok-row.ensures.some entries tree))
