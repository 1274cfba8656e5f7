use Rattle.std.proofs.Common.{◌<◌, ◌≡◌, arith, refl, sym, ◌∙◌}
use Rattle.copy_places.proofs.Asking.{asks_failed, asks_well}
use Rattle.copy_places.proofs.AskingOnce.{each_at}
use Rattle.copy_places.proofs.places.Places.ask.Goals as goal

pub returns-then-failures-before-clause-asks : goal.returns-then-failures-before-clause-asks
returns-then-failures-before-clause-asks g c =
    let asks = c.get-answer.ensures.asks in
    let rose : c.index_mut-place.result.now.failures < c.get-answer.new.self.failures =
    let more = asks.more in let now = c.failures.ensures in let before = c.failures-before.ensures in
    let differ = c.if-failures-before.true in omega arith in
    asks_failed g.S.Source.may_answer g.S.Source.failed g.S.Source.asked (λ p. p ≡ c.args.path.now) c.args.self.now _
    c.args.index c.index_mut-place.result.now c.get-answer.new.self c.requires refl refl refl c.index_mut-place.ensures.value asks
    rose

pub returns-else-failures-before-clause-asks : goal.returns-else-failures-before-clause-asks
returns-else-failures-before-clause-asks g c =
    asks_well g.S.Source.may_answer g.S.Source.failed g.S.Source.asked (λ p. p ≡ c.args.path.now) c.args.self.now _
    c.args.index c.index_mut-place.result.now c.get-answer.new.self c.requires refl refl refl c.index_mut-place.ensures.value
    c.get-answer.ensures.asks (sym c.failures.ensures ∙ (c.if-failures-before.false ∙ c.failures-before.ensures))

pub returns-then-failures-before-clause-once : goal.returns-then-failures-before-clause-once
returns-then-failures-before-clause-once g c =
    each_at g.S.Source.asked (λ p. p ≡ c.args.path.now) c.args.self.now _ c.args.index c.index_mut-place.result.now
    c.get-answer.new.self c.requires refl c.index_mut-place.ensures.value c.get-answer.ensures.once

pub returns-else-failures-before-clause-once : goal.returns-else-failures-before-clause-once
returns-else-failures-before-clause-once g c =
    each_at g.S.Source.asked (λ p. p ≡ c.args.path.now) c.args.self.now _ c.args.index c.index_mut-place.result.now
    c.get-answer.new.self c.requires refl c.index_mut-place.ensures.value c.get-answer.ensures.once
