use Rattle.std.proofs.Common.{◌∷◌, [], length, length-append, ap, arith}
use Rattle.copy_places.specs.Mixes.{AreTwoAt}
use Rattle.copy_places.proofs.Mixing.{items_more}
use Rattle.copy_places.proofs.mix.rows_of_two.Goals as goal

pub loop-level-preserved : goal.loop-level-preserved
loop-level-preserved c =
    let long = c.loop-level.invariant.long in
    let is = c.in_ok-push-in-Some.ensures.items in
    record {
      long = omega (arith, long, ap length is, length-append c.loop-level.levels.items (c.in-Some.two ∷ []));
      each = items_more (AreTwoAt c.args.first.now c.args.second.now) c.loop-level.levels.items c.push.new.self.items c.in-Some.two
          c.loop-level.level is long c.loop-level.invariant.each (rw c.in-Some.is at c.in_ok-two.ensures.some);
    }
