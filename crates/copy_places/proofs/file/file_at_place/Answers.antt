use Rattle.std.proofs.Common.{◌≡◌, ℕ, List, Some, None, get_or, inl, inr, subst, sym}
use Rattle.copy_places.proofs.Asking.{asks_noted, blamed_failed}
use Rattle.copy_places.proofs.AskingOnce.{once_noted}
use Rattle.copy_places.specs.AskedOnce.{IsAtPlace}
use Rattle.copy_places.proofs.file.file_at_place.Goals as goal

pub returns-in-Some-clause-asks : goal.returns-in-Some-clause-asks
returns-in-Some-clause-asks g c =
    asks_noted g.S.Source.may_answer g.S.Source.failed g.S.Source.asked (λ p. p ≡ c.args.path.now) c.args.places.now
    c.get.new.self c.note_verified.new.self c.get.ensures.asks c.note_verified.ensures

pub returns-in-None-clause-asks : goal.returns-in-None-clause-asks
returns-in-None-clause-asks g c =
    asks_noted g.S.Source.may_answer g.S.Source.failed g.S.Source.asked (λ p. p ≡ c.args.path.now) c.args.places.now
    c.get.new.self c.note_wrong.new.self c.get.ensures.asks c.note_wrong.ensures.asks

pub returns-in-NotFound-clause-asks : goal.returns-in-NotFound-clause-asks
returns-in-NotFound-clause-asks g c =
    asks_noted g.S.Source.may_answer g.S.Source.failed g.S.Source.asked (λ p. p ≡ c.args.path.now) c.args.places.now
    c.get.new.self c.note_wrong-in-NotFound.new.self c.get.ensures.asks c.note_wrong-in-NotFound.ensures.asks

pub returns-in-None-clause-none : goal.returns-in-None-clause-none
returns-in-None-clause-none g c = λ d.
    let given = rw c.in-File.is at (c.in_ok-bytes.ensures.answer d) in
    let none = rw c.in-None.is at c.in_ok-found-in-File.ensures.none in
    inr (Some c.in-File.bytes.items, given, λ good. none good.0 good.1)

pub returns-in-NotFound-clause-none : goal.returns-in-NotFound-clause-none
returns-in-NotFound-clause-none g c = λ d.
    let given = rw c.in-NotFound.is at (c.in_ok-bytes.ensures.answer d) in inr (None, given, tt)

pub returns-in-Failed-clause-none : goal.returns-in-Failed-clause-none
returns-in-Failed-clause-none g c = λ d.
    let failed = rw c.in-Failed.is at (c.in_ok-bytes.ensures.answer d) in inl failed

pub returns-in-Some-clause-given : goal.returns-in-Some-clause-given
returns-in-Some-clause-given g c =
    let same = rw c.in-Some.is at c.in_ok-found-in-File.ensures.same in
    record {
      index = c.args.index;
      listed = c.requires;
      may_be = λ d.
          let given = rw c.in-File.is at (c.in_ok-bytes.ensures.answer d) in
          subst (λ (b : List ℕ). g.S.Source.may_answer (get_or c.args.places.now.list.items c.args.index d).source c.args.path.now
          (Some b)) (sym same) given;
    }

pub returns-in-Some-clause-once : goal.returns-in-Some-clause-once
returns-in-Some-clause-once g c =
    once_noted g.S.Source.asked g.S.Source.may_answer g.S.Source.failed (IsAtPlace c.args.index (λ p. p ≡ c.args.path.now)) c.args.places.now c.get.new.self
    c.note_verified.new.self c.get.ensures.once c.note_verified.ensures

pub returns-in-None-clause-once : goal.returns-in-None-clause-once
returns-in-None-clause-once g c =
    once_noted g.S.Source.asked g.S.Source.may_answer g.S.Source.failed (IsAtPlace c.args.index (λ p. p ≡ c.args.path.now)) c.args.places.now c.get.new.self
    c.note_wrong.new.self c.get.ensures.once c.note_wrong.ensures.asks

pub returns-in-NotFound-clause-once : goal.returns-in-NotFound-clause-once
returns-in-NotFound-clause-once g c =
    once_noted g.S.Source.asked g.S.Source.may_answer g.S.Source.failed (IsAtPlace c.args.index (λ p. p ≡ c.args.path.now)) c.args.places.now c.get.new.self
    c.note_wrong-in-NotFound.new.self c.get.ensures.once c.note_wrong-in-NotFound.ensures.asks

pub returns-in-Failed-clause-blamed : goal.returns-in-Failed-clause-blamed
returns-in-Failed-clause-blamed g c =
    blamed_failed g.S.Source.may_answer g.S.Source.failed g.S.Source.asked (λ p. p ≡ c.args.path.now) c.args.places.now
    c.get.new.self c.get.ensures.asks c.args.index (λ d. rw c.in-Failed.is at (c.in_ok-bytes.ensures.answer d))
