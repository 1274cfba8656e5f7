use Rattle.std.proofs.Common.{refl, arith}
use Rattle.mirror_trees.proofs.RowSteps.{within_blocks, from_blocks}
use Rattle.mirror_trees.proofs.rows.first_of.Goals as goal

pub returns-then-index-count-clause-none : goal.returns-then-index-count-clause-none
returns-then-index-count-clause-none c =
    λ w. omega
    (arith, within_blocks c.args.size c.args.level c.args.index c.args.width w, w.some, c.if-index-count.true)

pub returns-then-from-count-clause-none : goal.returns-then-from-count-clause-none
returns-then-from-count-clause-none c =
    λ w. omega (
      arith,
      within_blocks c.args.size c.args.level c.args.index c.args.width w,
      w.some,
      c.if-from-count.true,
      c.from.ensures,
    )

pub returns-clause-some : goal.returns-clause-some
returns-clause-some c = (
  refl,
  record {
    level_fits = omega (arith, c.if-level-gt7.false);
    some = omega (arith, c.if-width-eq0.false);
    upto = omega (arith, c.if-width-gt256.false);
    within = from_blocks c.args.size c.args.level c.args.index c.args.width
        (omega (arith, c.if-index-count.false, c.if-from-count.false, c.from.ensures));
  },
)
