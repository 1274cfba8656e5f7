use Rattle.std.proofs.Common.{length}
use Rattle.copy_places.proofs.GatheredFrom.{none_given, turns_gave, turns_give, turns_some}
use Rattle.copy_places.proofs.Opened.{turns_open}
use Rattle.copy_places.proofs.candidates.ask_places.Goals as goal

pub returns-clause-opened : goal.returns-clause-opened
returns-clause-opened g c =
    let e = c.in_ok-gathered.ensures.gathers in
    turns_open _ _ e.answers c.in_ok-gathered.gathered.candidates.items c.in_ok-gathered.gathered.first c.in_turn.result
    e.gathers c.in_turn.ensures.same

pub returns-clause-gave : goal.returns-clause-gave
returns-clause-gave g c =
    turns_gave _ _ g.S.Source.may_answer g.S.Source.failed g.S.Source.asked c.args.places.now c.ask_each_place.new.places
    (length c.args.places.now.list.items) c.in_ok-gathered.gathered c.in_turn.result c.in_ok-gathered.ensures.gathers
    c.in_turn.ensures.same

pub returns-clause-some : goal.returns-clause-some
returns-clause-some g c =
    turns_some c.in_ok-gathered.gathered c.in_turn.result c.in_turn.ensures.same c.in_turn.ensures.some

pub returns-clause-none : goal.returns-clause-none
returns-clause-none g c =
    none_given _ _ g.S.Source.may_answer g.S.Source.failed g.S.Source.asked c.args.places.now c.ask_each_place.new.places
    c.in_ok-gathered.gathered c.in_turn.result c.in_ok-gathered.ensures.gathers c.in_turn.ensures.none
    c.in_turn.ensures.fault

pub returns-clause-gives : goal.returns-clause-gives
returns-clause-gives g c =
    turns_give _ _ g.S.Source.may_answer g.S.Source.failed g.S.Source.asked c.args.places.now c.ask_each_place.new.places
    c.in_ok-gathered.gathered c.in_turn.result c.in_ok-gathered.ensures.gathers c.in_turn.ensures.same
