use Rattle.std.proofs.Common.{◌≡◌, ◌<◌, ◌++◌, List, ℕ, ◌+◌, ◌*◌, [], sym, ap, subst, ◌∙◌, arith}
use Rattle.std.proofs.lemmas.List.{append-nil}
use Rattle.tlog_tiles.specs.Path.{three_digits}
use Rattle.tlog_tiles.proofs.TextLemmas.{if_none, some_iff_found, some_iff_none, empty_text, not_empty}
use Rattle.tlog_tiles.proofs.IndexLemmas.{IsIndexAfter, IsIndexAfter-group, IsIndexAfter-cons, IsIndexAfter-digits}
use Rattle.tlog_tiles.proofs.IndexLemmas.{IsIndexAfter-end, end_one}
use Rattle.tlog_tiles.proofs.paths.reading.index_of.Goals as goal

pub returns-in_err-index-clause-none : goal.returns-in_err-index-clause-none
returns-in_err-index-clause-none c = if_none _ c.from_residual.result (λ n upto h.
    let at = IsIndexAfter-group c.loop-group.index c.in-Some.group n c.in-Some.after.now c.in-Some.ensures.found.0
    c.loop-group.rest.now c.in-Some.ensures.found.1 (c.loop-group.invariant.others n h) in
    let most = at.upto in
    c.in_err-index.ensures (omega arith))

pub returns-then-index-eq0-clause-none : goal.returns-then-index-eq0-clause-none
returns-then-index-eq0-clause-none c = λ n upto h.
    let at = IsIndexAfter-group c.loop-group.index c.in-Some.group n c.in-Some.after.now c.in-Some.ensures.found.0
    c.loop-group.rest.now c.in-Some.ensures.found.1 (c.loop-group.invariant.others n h) in
    let some = at.some in
    omega (arith, c.in_ok-index.ensures.1)

pub loop-group-preserved : goal.loop-group-preserved
loop-group-preserved c =
    let index = c.loop-group.index in
    let group = c.in-Some.group in
    let next : c.in_ok-index.index ≡ index * 1000 + group = c.in_ok-index.ensures.1 in
    let apart = c.if-index-eq0.false in
    let some : 0 < index * 1000 + group = omega arith in
    record {
      fits = omega (arith, c.in_ok-index.ensures.0);
      found = λ n h. c.loop-group.invariant.found n
          (IsIndexAfter-cons index group n c.in-Some.after.now c.in-Some.ensures.found.0 c.loop-group.rest.now
          c.in-Some.ensures.found.1 some (subst (λ k. IsIndexAfter k c.in-Some.after.now n) next h));
      others = λ n h. subst (λ k. IsIndexAfter k c.in-Some.after.now n) (sym next)
          (IsIndexAfter-group index group n c.in-Some.after.now c.in-Some.ensures.found.0 c.loop-group.rest.now
          c.in-Some.ensures.found.1 (c.loop-group.invariant.others n h)).after;
    }

pub returns-in_err-group-clause-none : goal.returns-in_err-group-clause-none
returns-in_err-group-clause-none c = if_none _ c.from_residual-in_err-group.result (λ n upto h.
    let end =
    IsIndexAfter-end c.loop-group.index n c.loop-group.rest.now c.in_default.ensures.none
    (c.loop-group.invariant.others n h) in
    c.in_err-group.ensures.none end.last [] end.fits (end.text_is ∙ sym (append-nil (three_digits end.last))))

pub returns-then-not-is_empty-clause-none : goal.returns-then-not-is_empty-clause-none
returns-then-not-is_empty-clause-none c = λ n upto h.
    let end =
    IsIndexAfter-end c.loop-group.index n c.loop-group.rest.now c.in_default.ensures.none
    (c.loop-group.invariant.others n h) in
    let one =
    end_one c.loop-group.index n c.in_ok-group.group c.loop-group.rest.now c.in_ok-group.after.now
    c.in_ok-group.ensures.found.0 c.in_ok-group.ensures.found.1 end in
    not_empty c.in_ok-group.after.now (sym c.is_empty.ensures ∙ c.if-not-is_empty.true) one.1

pub returns-clause-found : goal.returns-clause-found
returns-clause-found c =
    let none = empty_text c.in_ok-group.after.now (sym c.is_empty.ensures ∙ c.if-not-is_empty.false) in
    let text : c.loop-group.rest.now ≡ three_digits c.in_ok-group.group =
    c.in_ok-group.ensures.found.1 ∙
    (ap (λ (x : List ℕ). three_digits c.in_ok-group.group ++ x) none ∙
    append-nil (three_digits c.in_ok-group.group)) in
    some_iff_found _ _ _ c.with_group-2.result c.with_group-2.ensures
    (λ upto. (
      c.loop-group.invariant.found (c.loop-group.index * 1000 + c.in_ok-group.group)
          (IsIndexAfter-digits c.loop-group.index c.in_ok-group.group c.loop-group.rest.now
          c.in_ok-group.ensures.found.0 text),
      upto,
    ))

pub returns-clause-none : goal.returns-clause-none
returns-clause-none c = some_iff_none _ _ _ c.with_group-2.result c.with_group-2.ensures (λ over n upto h.
    let end =
    IsIndexAfter-end c.loop-group.index n c.loop-group.rest.now c.in_default.ensures.none
    (c.loop-group.invariant.others n h) in
    let one =
    end_one c.loop-group.index n c.in_ok-group.group c.loop-group.rest.now c.in_ok-group.after.now
    c.in_ok-group.ensures.found.0 c.in_ok-group.ensures.found.1 end in
    let same = one.0 in
    over (omega arith))
