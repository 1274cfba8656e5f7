use Rattle.std.specs.Prelude.{⊤}
use Rattle.std.proofs.Common.{refl}
use Rattle.copy_places.proofs.Asking.{answers_is}
use Rattle.copy_places.proofs.Requests.{any_of, any_same}
use Rattle.copy_places.proofs.proving.ask_proof.Goals as goal

pub returns-clause-asks : goal.returns-clause-asks
returns-clause-asks g c =
    any_of g.S.Source.may_answer g.S.Source.failed g.S.Source.asked (λ path. ⊤) c.args.places.now c.find_proof.new.places c.find_proof.ensures.goes.asks

pub returns-then-first-smaller-clause-asks : goal.returns-then-first-smaller-clause-asks
returns-then-first-smaller-clause-asks g c =
    any_same g.S.Source.may_answer g.S.Source.failed g.S.Source.asked c.args.places.now

pub returns-then-first-second-clause-asks : goal.returns-then-first-second-clause-asks
returns-then-first-second-clause-asks g c =
    any_same g.S.Source.may_answer g.S.Source.failed g.S.Source.asked c.args.places.now

pub returns-clause-answered : goal.returns-clause-answered
returns-clause-answered g c = c.find_proof.ensures.goes.asks.answered

pub returns-then-first-smaller-clause-answered : goal.returns-then-first-smaller-clause-answered
returns-then-first-smaller-clause-answered g c =
    answers_is g.S.Source.may_answer g.S.Source.failed g.S.Source.asked c.args.places.now c.args.places.now refl

pub returns-then-first-second-clause-answered : goal.returns-then-first-second-clause-answered
returns-then-first-second-clause-answered g c =
    answers_is g.S.Source.may_answer g.S.Source.failed g.S.Source.asked c.args.places.now c.args.places.now refl
