use Rattle.copy_places.proofs.Requests.{any_same}
use Rattle.copy_follow.proofs.Looking.{adds_held, adds_none}
use Rattle.copy_follow.proofs.Telling.{first_held, first_none}
use Rattle.copy_follow.proofs.again.look_all.Goals as goal

pub returns-in-None-clause-asks : goal.returns-in-None-clause-asks
returns-in-None-clause-asks g c =
    any_same g.S.Source.may_answer g.S.Source.failed g.S.Source.asked c.args.places.now

pub returns-in-None-clause-adds : goal.returns-in-None-clause-adds
returns-in-None-clause-adds g c =
    adds_none g.H.TreeHash.digest c.args.copy.now c.args.lacked.now c.args.forks.now.items

pub returns-in-Some-clause-adds : goal.returns-in-Some-clause-adds
returns-in-Some-clause-adds g c =
    adds_held g.H.TreeHash.digest c.look_each.result c.args.copy.now c.in-Some.copy c.args.lacked.now c.args.forks.now.items
    c.look_each.new.forks.items c.in-Some.is c.look_each.ensures.adds

pub returns-in-None-clause-tells : goal.returns-in-None-clause-tells
returns-in-None-clause-tells g c =
    first_none g.H.TreeHash.digest g.S.Source.may_answer g.S.Source.failed g.S.Source.asked c.args.places.now c.args.places.now
    c.args.copy.now c.args.forks.now.items c.args.lacked.now c.args.again c.in-None.is

pub returns-in-Some-clause-tells : goal.returns-in-Some-clause-tells
returns-in-Some-clause-tells g c =
    first_held g.H.TreeHash.digest g.S.Source.may_answer g.S.Source.failed g.S.Source.asked c.look_each.result c.args.places.now
    c.look_each.new.places c.args.copy.now c.in-Some.copy c.look_each.new.forks.items c.args.lacked.now c.args.again
    c.in-Some.is c.look_each.ensures.tells
