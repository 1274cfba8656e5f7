use Rattle.std.proofs.Common.{◌≡◌, ◌∙◌, false, inl, rules, subst, sym, true≢false, ◌+◌}
use Rattle.copy_follow.specs.Lining.{HasLeft}
use Rattle.copy_follow.specs.TurnsTaken.{IsLargerThan}
use Rattle.copy_follow.proofs.Lining.{left_added, left_again, left_told}
use Rattle.copy_follow.proofs.TurnOrder.{element}
use Rattle.copy_follow.proofs.lines.add_left.Goals as goal

pub returns-then-is_repeated : goal.returns-then-is_repeated
returns-then-is_repeated c = λ h.
    let x = element c.args.candidates.now c.args.i c.requires.within in
    left_again c.args.copy.now c.args.candidates.now c.args.lines.now c.requires.rising c.args.i x.0 c.requires.within x.1
    (c.is_repeated.ensures.is.0 c.if-is_repeated.true) c.args.larger.now.items h

pub returns-then-not-exceeds : goal.returns-then-not-exceeds
returns-then-not-exceeds c = λ h.
    let no : c.exceeds.result ≡ false = search rules in
    left_told c.args.copy.now c.args.candidates.now c.args.lines.now c.requires.rising c.args.i c.index-candidates-i.result
    c.requires.within c.index-candidates-i.is c.args.larger.now.items h
    (λ above. absurd (true≢false (sym (c.exceeds.ensures.1 above) ∙ no)))

pub returns-then-is_in_lines : goal.returns-then-is_in_lines
returns-then-is_in_lines c = λ h.
    left_told c.args.copy.now c.args.candidates.now c.args.lines.now c.requires.rising c.args.i c.index-candidates-i.result
    c.requires.within c.index-candidates-i.is c.args.larger.now.items h
    (λ above. inl (c.is_in_lines.ensures.yes c.if-is_in_lines.true))

pub returns : goal.returns
returns c = λ h.
    let above : IsLargerThan c.args.copy.now c.index-candidates-i.result = c.exceeds.ensures.0 (search rules) in
    subst (HasLeft c.args.copy.now c.args.candidates.now c.args.lines.now (c.args.i + 1)) (sym c.in_ok-insert.ensures.items)
    (left_added c.args.copy.now c.args.candidates.now c.args.lines.now c.requires.rising c.args.i c.index-candidates-i.result
    c.requires.within c.index-candidates-i.is
    (λ r. true≢false (sym (c.is_repeated.ensures.is.1 r) ∙ c.if-is_repeated.false)) above
    (c.is_in_lines.ensures.no c.if-is_in_lines.false) c.args.larger.now.items h)
