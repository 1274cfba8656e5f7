use Rattle.std.proofs.Common.{◌+◌, ◌-◌, ◌/◌, ap, ◌∙◌, arith}
use Rattle.tlog_shape.proofs.Levels.{level_positive, shift_level}
use Rattle.tlog_shape.proofs.Edges.{level_within, range_has, rest_positive, spans_node, tile_is}
use Rattle.tlog_shape.proofs.edge.tile_of_node.Goals as goal

pub overflow_add-level : goal.overflow_add-level
overflow_add-level c =
    let within =
    level_within c.loop-rest.level (c.args.size - 1) c.loop-rest.invariant.above
    (omega (arith, c.ranges.size.fits)) in
    omega (arith, within)

pub loop-rest-preserved : goal.loop-rest-preserved
loop-rest-preserved c =
    record {
      rest_is = ap (λ q. q / 256) c.loop-rest.invariant.rest_is ∙ shift_level (c.args.size - 1) (c.loop-rest.level + 1);
      above = rest_positive (c.args.size - 1) _ (level_positive (c.loop-rest.level + 1))
          (omega (arith, c.loop-rest.invariant.rest_is, c.loop-rest-test.true));
    }

pub overflow_add-level-2 : goal.overflow_add-level-2
overflow_add-level-2 c =
    let within =
    level_within c.loop-rest.level (c.args.size - 1) c.loop-rest.invariant.above
    (omega (arith, c.ranges.size.fits)) in
    omega (arith, within)

pub blocks-requires : goal.blocks-requires
blocks-requires c =
    let within =
    level_within c.loop-rest.level (c.args.size - 1) c.loop-rest.invariant.above
    (omega (arith, c.ranges.size.fits)) in
    omega (arith, within)

pub returns-clause-level : goal.returns-clause-level
returns-clause-level c =
    level_within c.loop-rest.level (c.args.size - 1) c.loop-rest.invariant.above (omega (arith, c.ranges.size.fits))

pub returns-clause-tile : goal.returns-clause-tile
returns-clause-tile c =
    let upto =
    spans_node c.args.size c.loop-rest.level c.loop-rest.rest c.requires c.loop-rest.invariant.rest_is
    (omega (arith, c.loop-rest-test.false)) in
    tile_is c.args.start c.args.size c.loop-rest.level _ c.requires upto c.blocks-2.ensures c.loop-rest.invariant.above

pub returns-clause-range : goal.returns-clause-range
returns-clause-range c =
    let upto =
    spans_node c.args.size c.loop-rest.level c.loop-rest.rest c.requires c.loop-rest.invariant.rest_is
    (omega (arith, c.loop-rest-test.false)) in
    λ power aligned. range_has c.args.start c.args.size c.loop-rest.level _ c.requires upto c.blocks-2.ensures power
    aligned
