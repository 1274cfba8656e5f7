use Rattle.std.proofs.Common.{◌*◌, arith, sym, ◌∙◌}
use Rattle.std.proofs.lemmas.Nat.{one_shl}
use Rattle.tlog_shape.proofs.Levels.{level_power}
use Rattle.mirror_trees.proofs.unit.unit_of.Goals as goal

pub returns-clause-value : goal.returns-clause-value
returns-clause-value c = one_shl (8 * c.args.level) 64 (omega (arith, c.requires)) ∙ sym (level_power c.args.level)

pub returns-clause-power : goal.returns-clause-power
returns-clause-power c =
    record { exponent = 8 * c.args.level; is = one_shl (8 * c.args.level) 64 (omega (arith, c.requires)) }
