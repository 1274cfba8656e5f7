use Rattle.std.proofs.Common.{subst}
use Rattle.copy_follow.proofs.Ending.{keeps_fault, source_blames}
use Rattle.copy_follow.proofs.Runs.{each_none, each_then}
use Rattle.copy_follow.proofs.Taken.{taken_turn}
use Rattle.copy_follow.proofs.Turning.{run_turned}
use Rattle.copy_follow.specs.RunStanding.{KnowsAfter}
use Rattle.copy_follow.proofs.OneHonestRun.{steps_up}
use Rattle.copy_follow.proofs.Telling.{told_turn}
use Rattle.copy_follow.proofs.turn.take_turn.Goals as goal

pub returns-in-Ok-add-clause-run : goal.returns-in-Ok-add-clause-run
returns-in-Ok-add-clause-run g c =
    run_turned g.H.TreeHash.digest c.args.origin.now (g.D.Shelf.puts c.args.shelf.now) (g.D.Shelf.puts c.turn_for.new.shelf)
    c.args.candidate.now c.args.run.now c.add.new.self c.in-Ok.turn
    c.requires.head c.in-Ok.ensures.after c.in-Ok-add.ensures.copy c.add.ensures.had
    (c.in-Ok-add.ensures.shows g.H.TreeHash.digest c.in-Ok.ensures.shows)

pub returns-in-Ok-add-clause-fault : goal.returns-in-Ok-add-clause-fault
returns-in-Ok-add-clause-fault g c =
    λ done keeps. keeps_fault g.H.TreeHash.digest done c.args.candidate.now c.args.run.now c.add.new.self c.in-Ok.turn
    c.in-Ok.ensures.empty c.in-Ok-add.ensures.copy c.in-Ok-add.ensures.fault keeps

pub returns-in-Ok-add-clause-source : goal.returns-in-Ok-add-clause-source
returns-in-Ok-add-clause-source g c =
    source_blames c.args.places.now c.turn_for.new.places c.args.run.now c.add.new.self c.in-Ok.turn
    c.in-Ok-add.ensures.fault c.in-Ok.ensures.source

pub returns-in-Ok-add-clause-taken : goal.returns-in-Ok-add-clause-taken
returns-in-Ok-add-clause-taken g c =
    λ first done is h. taken_turn g.H.TreeHash.digest first done c.args.candidate.now c.args.run.now c.add.new.self
    c.in-Ok.turn h is c.in-Ok-add.ensures.copy c.in-Ok-add.ensures.added c.in-Ok.ensures.says
    c.in-Ok.ensures.shows

pub returns-in-Err-clause-suffices : goal.returns-in-Err-clause-suffices
returns-in-Err-clause-suffices g c = λ stands larger h.
    c.fault_now.ensures.spares (c.in-Err.ensures.suffices stands larger h)

pub returns-in-Err-clause-keeps : goal.returns-in-Err-clause-keeps
returns-in-Err-clause-keeps g c = λ notes listed.
    let y = g.D.Shelf.puts c.turn_for.new.shelf in
    let z = g.D.Shelf.puts c.fault_now.new.shelf in
    each_then g.H.TreeHash.digest c.args.origin.now notes (g.D.Shelf.puts c.args.shelf.now) z y (c.turn_for.ensures.keeps notes listed)
    (each_none g.H.TreeHash.digest c.args.origin.now notes y z c.fault_now.ensures.same)

pub returns-in-Err-clause-counted : goal.returns-in-Err-clause-counted
returns-in-Err-clause-counted g c =
    c.fault_now.ensures.counted (g.D.Shelf.failed c.args.shelf.now) c.in-Err.ensures.counted

pub returns-in-Err-clause-ends : goal.returns-in-Err-clause-ends
returns-in-Err-clause-ends g c = c.fault_now.ensures.ends g.H.TreeHash.digest c.args.origin.now (g.D.Shelf.puts c.args.shelf.now) c.in-Err.ensures.ends

pub returns-in-Err-clause-looks : goal.returns-in-Err-clause-looks
returns-in-Err-clause-looks g c = (c.turn_for.new.shelf, c.fault_now.ensures.looks)

pub returns-in-Err-add-clause-looks : goal.returns-in-Err-add-clause-looks
returns-in-Err-add-clause-looks g c = (c.args.shelf.now, tt)

pub returns-in-Ok-add-clause-suffices : goal.returns-in-Ok-add-clause-suffices
returns-in-Ok-add-clause-suffices g c = λ stands larger h.
    subst (λ t. KnowsAfter c.args.candidate.now t c.args.run.now.copy c.add.new.self.copy)
    (c.in-Ok.ensures.suffices stands larger h) c.in-Ok-add.ensures.copy

pub returns-in-Ok-add-clause-steps : goal.returns-in-Ok-add-clause-steps
returns-in-Ok-add-clause-steps g c =
    steps_up g.H.TreeHash.digest c.args.candidate.now c.in-Ok.turn c.args.run.now.copy c.add.new.self.copy
    c.in-Ok.ensures.says c.in-Ok-add.ensures.copy

pub returns-in-Ok-add-clause-tells : goal.returns-in-Ok-add-clause-tells
returns-in-Ok-add-clause-tells g c = λ start done asks told.
    told_turn g.H.TreeHash.digest g.S.Source.may_answer g.S.Source.failed g.S.Source.asked start c.args.places.now
    c.turn_for.new.places asks c.turn_for.ensures.asks done c.args.candidate.now c.args.run.now c.add.new.self c.in-Ok.turn
    c.in-Ok-add.ensures.copy c.in-Ok-add.ensures.added c.in-Ok-add.ensures.again c.in-Ok.ensures.says c.in-Ok.ensures.tells told
