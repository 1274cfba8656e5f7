use Rattle.std.proofs.Common.{List, ℕ, [], ◌∷◌, Some, refl, sym, subst}
use Rattle.tlog_tiles.specs.Cut.{IsFileCut}
use Rattle.mirror_sources.specs.Honest.{true_bytes}
use Rattle.mirror_sources.specs.Replies.{reply}
use Rattle.copy_reader.specs.Answering.{AreGiven}
use Rattle.copy_reader.proofs.Cuts.{cut_true, full_false, full_given, full_read, true_cut}
use Rattle.copy_reader.proofs.Given.{given_one, may_some}
use Rattle.copy_reader.proofs.part.get_full_part.Goals as goal

pub returns-clause-read : goal.returns-clause-read
returns-clause-read g c =
    let a = g.S.Source.may_answer c.args.source.now in
    let b = g.S.Source.may_answer c.get.new.self in
    let x = g.S.Source.asked c.args.source.now in
    let y = g.S.Source.asked c.get.new.self in
    let whole = c.in-Some.full.items in
    full_read c.args.path whole a b x y
    (subst (λ k. AreGiven a b x y (reply k (Some whole) ∷ [])) c.full.ensures
    (given_one a b x y c.full.result (Some whole) c.in_ok-full.ensures.later
    (may_some a c.full.result c.in_ok-full.field-0 c.in-Some.full c.in-Some.is c.in_ok-full.ensures.answer)
    c.in_ok-full.ensures.recorded))
    c.in-Some-cut.part.now c.truncate.new.self.items
    (subst (λ (l : List ℕ). IsFileCut c.args.path 256 l c.in-Some-cut.part.now) c.deref.ensures.value c.in-Some-cut.ensures.some)
    c.truncate.ensures.items

pub returns-clause-given : goal.returns-clause-given
returns-clause-given g c =
    full_given c.args.path c.truncate.new.self.items (g.S.Source.may_answer c.args.source.now)
    (g.S.Source.may_answer c.get.new.self) (g.S.Source.asked c.args.source.now) (g.S.Source.asked c.get.new.self)
    (returns-clause-read g c)

pub returns-clause-honest : goal.returns-clause-honest
returns-clause-honest g c = λ digest entries hash short file way.
    let a = g.S.Source.may_answer c.args.source.now in
    let whole = c.in-Some.full.items in
    cut_true digest hash entries short c.args.path whole c.in-Some-cut.part.now c.truncate.new.self.items
    (subst (λ (l : List ℕ). IsFileCut c.args.path 256 l c.in-Some-cut.part.now) c.deref.ensures.value c.in-Some-cut.ensures.some)
    c.truncate.ensures.items file
    (way.full (Some whole) (subst (λ p. a p (Some whole)) c.full.ensures
    (may_some a c.full.result c.in_ok-full.field-0 c.in-Some.full c.in-Some.is c.in_ok-full.ensures.answer)))

pub returns-in_default-cut-clause-first : goal.returns-in_default-cut-clause-first
returns-in_default-cut-clause-first g c =
    let a = g.S.Source.may_answer c.args.source.now in
    let b = g.S.Source.may_answer c.get.new.self in
    let x = g.S.Source.asked c.args.source.now in
    let y = g.S.Source.asked c.get.new.self in
    let whole = c.in-Some.full.items in (
      refl,
      full_false c.args.path whole a b x y
          (subst (λ k. AreGiven a b x y (reply k (Some whole) ∷ [])) c.full.ensures
          (given_one a b x y c.full.result (Some whole) c.in_ok-full.ensures.later
          (may_some a c.full.result c.in_ok-full.field-0 c.in-Some.full c.in-Some.is c.in_ok-full.ensures.answer)
          c.in_ok-full.ensures.recorded))
          (subst (λ (l : List ℕ). (cut : List ℕ) → IsFileCut c.args.path 256 l cut → ⊥) c.deref.ensures.value
          c.in_default-cut.ensures.none),
    )

pub returns-in_default-cut-clause-honest : goal.returns-in_default-cut-clause-honest
returns-in_default-cut-clause-honest g c = λ digest entries hash short file way.
    let a = g.S.Source.may_answer c.args.source.now in
    let whole = c.in-Some.full.items in
    c.in_default-cut.ensures.none (true_bytes digest entries c.args.path)
    (subst (λ (l : List ℕ). IsFileCut c.args.path 256 l (true_bytes digest entries c.args.path)) (sym c.deref.ensures.value)
    (true_cut digest hash entries short c.args.path whole file
    (way.full (Some whole) (subst (λ p. a p (Some whole)) c.full.ensures
    (may_some a c.full.result c.in_ok-full.field-0 c.in-Some.full c.in-Some.is c.in_ok-full.ensures.answer)))))
