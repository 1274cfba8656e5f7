use Rattle.std.proofs.Common.{refl}
use Rattle.copy_places.proofs.Asking.{asked_noted, asks_well}
use Rattle.copy_places.proofs.AskingOnce.{more_none}
use Rattle.copy_places.proofs.places.Places.note_wrong.Goals as goal

pub returns-clause-asks : goal.returns-clause-asks
returns-clause-asks g c =
    asks_well g.S.Source.may_answer g.S.Source.failed g.S.Source.asked (λ p. ⊥) c.args.self.now _ c.args.index
    c.index_mut.result.now c.note_wrong.new.self c.requires refl refl refl c.index_mut.ensures.value
    (asked_noted g.S.Source.may_answer g.S.Source.failed g.S.Source.asked (λ p. ⊥) c.index_mut.result.now c.note_wrong.new.self
    c.args.path.now c.args.wrong c.args.self.now.tried c.note_wrong.ensures.source c.note_wrong.ensures.failures c.note_wrong.ensures.wrong)
    c.note_wrong.ensures.failures

pub returns-clause-more : goal.returns-clause-more
returns-clause-more g c =
    more_none g.S.Source.asked g.S.Source.may_answer g.S.Source.failed c.args.self.now _ (returns-clause-asks g c)
