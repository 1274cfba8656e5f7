use Rattle.std.proofs.Common.{sym, subst, arith}
use Rattle.std.proofs.lemmas.Bool.{eqb-true, eq-eqb}
use Rattle.tlog_shape.specs.Split.{IsPowerOfTwo}
use Rattle.tlog_shape.proofs.Splits.{perfect_half, half_perfect, one_is_power, small_power}
use Rattle.tlog_shape.proofs.sizes.is_perfect.Goals as goal

pub returns-then-n-lt2 : goal.returns-then-n-lt2
returns-then-n-lt2 c = (
  λ one. subst IsPowerOfTwo (sym (eqb-true _ _ one)) one_is_power,
  λ power. eq-eqb _ _ (small_power c.args.n c.if-n-lt2.true power),
)

pub returns : goal.returns
returns c = (
  λ half. let is =
      eqb-true _ _ half in half_perfect c.args.n c.if-n-lt2.false
      (omega (arith, is, c.split-k.ensures.value, c.split-k.ensures.below)),
  λ power. let is =
      perfect_half c.args.n c.if-n-lt2.false power in eq-eqb _ _ (omega (arith, is, c.split-k.ensures.value)),
)
