use Rattle.std.proofs.Common.{◌≡◌, ◌↔◌, ◌∙◌, ℕ, List, Some, length, inr, refl, rules, subst, sym}
use Rattle.copy_places.specs.Lines.{AreLines}
use Rattle.copy_places.specs.Shown.{ShowsEach}
use Rattle.copy_follow.specs.Lining.{HasLeft}
use Rattle.copy_follow.specs.Says.{IsBehind}
use Rattle.copy_follow.specs.Rule.{IsOfCopy, copy_point}
use Rattle.copy_follow.proofs.Settled.{has_one_root, lines_new, of_copy_new, settles, shows_new}
use Rattle.std.proofs.Common.{All, Contains}
use Rattle.std.proofs.lemmas.List.Elements.{Contains-append_left}
use Rattle.copy_follow.proofs.report.report.Goals as goal

pub returns-then-is_nothing-clause-fault : goal.returns-then-is_nothing-clause-fault
returns-then-is_nothing-clause-fault c =
    let p = c.is_nothing.ensures.yes c.if-is_nothing.true in
    inr (
      p.0,
      has_one_root c.args.run.copy c.args.candidates.now c.in_ok-equal.equal.items p.0 (sym c.deref.ensures.value ∙ p.1)
          c.in_ok-equal.ensures,
      search rules,
    )

pub returns-clause-shows : goal.returns-clause-shows
returns-clause-shows c = λ digest each.
    subst (λ l. ShowsEach digest l) (sym c.in_ok-append.ensures.items)
    (shows_new c.args.run.copy c.args.candidates.now c.args.run.forks.items c.add_to_copy.new.lines.items
    c.in_ok-equal.equal.items c.in_ok-add_to_copy.ensures c.in_ok-equal.ensures digest each)

pub returns-clause-lines : goal.returns-clause-lines
returns-clause-lines c = λ digest first h.
    let copy = c.args.run.copy in
    let cs = c.args.candidates.now in
    let larger = c.in_ok-larger.larger.items in
    subst (λ l. AreLines first cs l) (sym c.in_ok-append.ensures.items)
    (lines_new copy cs c.args.run.forks.items c.add_to_copy.new.lines.items c.in_ok-equal.equal.items
    c.in_ok-add_to_copy.ensures c.in_ok-equal.ensures larger
    (subst (λ l. HasLeft copy cs l (length cs) larger) (c.deref-2.ensures.value ∙ c.in_ok-append.ensures.items)
    c.in_ok-larger.ensures)
    digest first h.taken h.lines)

pub returns-clause-of_copy : goal.returns-clause-of_copy
returns-clause-of_copy c = λ digest first h.
    let copy = c.args.run.copy in
    let cs = c.args.candidates.now in
    subst (λ o. All (IsOfCopy first cs o) c.append.new.self.items) (sym c.point_of-copy.ensures)
    (subst (All (IsOfCopy first cs (copy_point copy))) (sym c.in_ok-append.ensures.items)
    (of_copy_new copy cs c.args.run.forks.items c.add_to_copy.new.lines.items c.in_ok-equal.equal.items
    c.in_ok-add_to_copy.ensures c.in_ok-equal.ensures first h.of_copy))

pub returns-clause-settles : goal.returns-clause-settles
returns-clause-settles c = λ digest first h.
    let copy = c.args.run.copy in
    let cs = c.args.candidates.now in
    let larger = c.in_ok-larger.larger.items in
    let behind = c.behind_of-behind.result in
    settles copy cs c.args.run.forks.items c.add_to_copy.new.lines.items c.in_ok-equal.equal.items
    c.in_ok-add_to_copy.ensures c.in_ok-equal.ensures larger
    (subst (λ l. HasLeft copy cs l (length cs) larger) (c.deref-2.ensures.value ∙ c.in_ok-append.ensures.items)
    c.in_ok-larger.ensures)
    digest first h.taken
    (record {
      copy = c.point_of-copy.result;
      old = c.args.run.had;
      forks = c.append.new.self;
      larger = c.in_ok-larger.larger;
      behind = behind;
    })
    c.point_of-copy.ensures c.in_ok-append.ensures.items refl
    (subst (λ l. (point : ℕ × List ℕ) → (behind ≡ Some point) ↔ IsBehind cs c.point_of-copy.result l larger point)
    c.deref-3.ensures.value
    (subst (λ l. (point : ℕ × List ℕ) →
    (behind ≡ Some point) ↔ IsBehind cs c.point_of-copy.result c.deref-3.result.now l point)
    c.deref-4.ensures.value c.behind_of-behind.ensures))
    (λ none empty. c.is_nothing.ensures.no c.if-is_nothing.false none (c.deref.ensures.value ∙ empty))

pub returns-clause-kept : goal.returns-clause-kept
returns-clause-kept c = λ line among.
    subst (λ l. Contains l line) (sym c.in_ok-append.ensures.items)
    (Contains-append_left c.add_to_copy.new.lines.items c.in_ok-equal.equal.items line
    (c.in_ok-add_to_copy.ensures.kept line among))
