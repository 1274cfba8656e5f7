use Rattle.std.proofs.Common.{◌≡◌, subst, sym}
use Rattle.copy_places.specs.AskedOnce.{IsAtPlace}
use Rattle.copy_places.specs.EndTiles.{AnswersStay}
use Rattle.copy_places.specs.declared.end_tiles.EndTiles.{EndTiles}
use Rattle.copy_places.proofs.KeptAnswers.{answers_put}
use Rattle.copy_places.proofs.Getting.{got_asks, got_once, kept_asks, kept_once, noted_asks, noted_once}
use Rattle.copy_places.proofs.places.Places.get.Goals as goal

pub returns-in_err-at-clause-asks : goal.returns-in_err-at-clause-asks
returns-in_err-at-clause-asks g c =
    noted_asks g.S.Source.may_answer g.S.Source.failed g.S.Source.asked (λ p. p ≡ c.args.path.now) c.args.self.now c.note.new.self
    c.note.ensures.kept c.note.ensures.none

pub returns-in_err-at-clause-once : goal.returns-in_err-at-clause-once
returns-in_err-at-clause-once g c =
    noted_once g.S.Source.may_answer g.S.Source.failed g.S.Source.asked (IsAtPlace c.args.index (λ p. p ≡ c.args.path.now))
    c.args.self.now c.note.new.self c.note.ensures.kept

pub returns-in_err-answer-clause-asks : goal.returns-in_err-answer-clause-asks
returns-in_err-answer-clause-asks g c =
    got_asks g.S.Source.may_answer g.S.Source.failed g.S.Source.asked (λ p. p ≡ c.args.path.now) c.args.self.now c.note.new.self
    c.ask.new.self c.note.ensures.kept c.note.ensures.none c.ask.ensures.asks

pub returns-in_err-answer-clause-once : goal.returns-in_err-answer-clause-once
returns-in_err-answer-clause-once g c =
    got_once g.S.Source.may_answer g.S.Source.failed g.S.Source.asked c.args.index c.args.path.now c.args.self.now c.note.new.self
    c.ask.new.self c.note.ensures.kept c.in_ok-at.ensures.heard c.ask.ensures.ends c.ask.ensures.once

pub returns-in_err-keep-clause-asks : goal.returns-in_err-keep-clause-asks
returns-in_err-keep-clause-asks g c =
    kept_asks g.S.Source.may_answer g.S.Source.failed g.S.Source.asked c.args.index c.args.path.now c.args.self.now c.note.new.self
    c.ask.new.self c.keep.new.self c.in_ok-at.at c.in_ok-answer.answer c.note.ensures.kept c.note.ensures.none c.in_ok-at.ensures.own
    c.ask.ensures.ends c.ask.ensures.asks c.in_ok-answer.ensures.answer c.keep.ensures.kept c.keep.ensures.none

pub returns-in_err-keep-clause-once : goal.returns-in_err-keep-clause-once
returns-in_err-keep-clause-once g c =
    kept_once g.S.Source.may_answer g.S.Source.failed g.S.Source.asked c.args.index c.args.path.now c.args.self.now c.note.new.self
    c.ask.new.self c.keep.new.self c.note.ensures.kept c.in_ok-at.ensures.heard c.ask.ensures.ends c.ask.ensures.once
    c.keep.ensures.kept

pub returns-clause-asks : goal.returns-clause-asks
returns-clause-asks g c =
    kept_asks g.S.Source.may_answer g.S.Source.failed g.S.Source.asked c.args.index c.args.path.now c.args.self.now c.note.new.self
    c.ask.new.self c.keep.new.self c.in_ok-at.at c.in_ok-answer.answer c.note.ensures.kept c.note.ensures.none c.in_ok-at.ensures.own
    c.ask.ensures.ends c.ask.ensures.asks c.in_ok-answer.ensures.answer c.keep.ensures.kept c.keep.ensures.none

pub returns-clause-once : goal.returns-clause-once
returns-clause-once g c =
    kept_once g.S.Source.may_answer g.S.Source.failed g.S.Source.asked c.args.index c.args.path.now c.args.self.now c.note.new.self
    c.ask.new.self c.keep.new.self c.note.ensures.kept c.in_ok-at.ensures.heard c.ask.ensures.ends c.ask.ensures.once
    c.keep.ensures.kept

pub returns-in_err-keep-clause-stay : goal.returns-in_err-keep-clause-stay
returns-in_err-keep-clause-stay g c =
    answers_put c.in_ok-at.at c.args.self.now.ends.tiles.items c.ask.new.self.ends.tiles.items c.keep.new.self.tiles.items
    (subst (λ (e : EndTiles). AnswersStay c.args.self.now.ends.tiles.items e.tiles.items) (sym c.ask.ensures.ends) c.note.ensures.stay) c.in_ok-at.ensures.last c.keep.ensures.stay

pub returns-clause-stay : goal.returns-clause-stay
returns-clause-stay g c =
    answers_put c.in_ok-at.at c.args.self.now.ends.tiles.items c.ask.new.self.ends.tiles.items c.keep.new.self.tiles.items
    (subst (λ (e : EndTiles). AnswersStay c.args.self.now.ends.tiles.items e.tiles.items) (sym c.ask.ensures.ends) c.note.ensures.stay) c.in_ok-at.ensures.last c.keep.ensures.stay
