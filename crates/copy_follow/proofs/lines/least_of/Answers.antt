use Rattle.std.proofs.Common.{◌≡◌, ◌∙◌, arith, subst, rules}
use Rattle.copy_follow.specs.Rule.{IsLeastOf}
use Rattle.copy_follow.proofs.TurnOrder.{least_at}
use Rattle.copy_follow.proofs.lines.least_of.Goals as goal

pub returns-then-other-candidate : goal.returns-then-other-candidate
returns-then-other-candidate c =
    let cs = c.args.candidates.now in
    let e : c.other-item.result.size.0 ≡ c.args.candidate.now.size.0 = search rules in
    subst (λ n. IsLeastOf cs n c.other-item.result) e
    (least_at cs c.requires.rising c.loop-other.other-index c.other-item.result (omega (arith, c.loop-other-test.true))
    c.other-item.is (λ k d less same. c.loop-other.invariant k d less (same ∙ e)))
