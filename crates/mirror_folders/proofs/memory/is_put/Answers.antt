use Rattle.std.proofs.Common.{refl, sym, ◌∙◌}
use Rattle.std.proofs.lemmas.Bool.{false≢true}
use Rattle.mirror_folders.proofs.Held.{held_all, held_here, held_more, held_none}
use Rattle.mirror_folders.proofs.memory.is_put.Goals as goal

pub returns-then-is_same : goal.returns-then-is_same
returns-then-is_same c = (
  λ _. held_here (λ put. (put.0, put.1.items)) c.args.puts.now c.args.path.now c.loop-put.put-index c.put-item.result
      c.loop-put-test.true c.put-item.is (c.is_same.ensures.0 c.if-is_same.true),
  λ _. refl,
)

pub returns : goal.returns
returns c = (
  λ e. absurd (false≢true e),
  λ h. absurd (held_all (λ put. (put.0, put.1.items))
      c.args.puts.now c.args.path.now c.loop-put.put-index c.loop-put-test.false c.loop-put.invariant h),
)

pub loop-put-init : goal.loop-put-init
loop-put-init c = held_none (λ put. (put.0, put.1.items)) c.args.puts.now c.args.path.now

pub loop-put-preserved : goal.loop-put-preserved
loop-put-preserved c = held_more (λ put. (put.0, put.1.items))
    c.args.puts.now c.args.path.now c.loop-put.put-index c.put-item.result c.loop-put-test.true c.put-item.is
    (λ same. absurd (false≢true (sym c.if-is_same.false ∙ c.is_same.ensures.1 same))) c.loop-put.invariant
