use Rattle.copy_follow.proofs.Telling.{told_asked}
use Rattle.copy_follow.proofs.bring_candidate.contradict.Goals as goal

pub returns-clause-counted : goal.returns-clause-counted
returns-clause-counted g c =
    c.outcome_of.ensures.counted (g.D.Shelf.failed c.args.shelf.now) (g.D.Shelf.failed c.ask_proof-found.new.shelf)
    c.ask_proof-found.ensures.counted

pub returns-clause-tells : goal.returns-clause-tells
returns-clause-tells g c = λ start before heard fits.
    told_asked g.H.TreeHash.digest g.S.Source.may_answer g.S.Source.failed g.S.Source.asked start c.args.places.now
    c.ask_proof-found.new.places (g.D.Shelf.puts c.args.shelf.now) c.args.copy.now c.args.candidate.now
    c.ask_proof-found.result c.outcome_of.result c.outcome_of.ensures.is c.requires before
    c.ask_proof-found.ensures.asks heard c.ask_proof-found.ensures.answered
    c.ask_proof-found.ensures.agrees c.ask_proof-found.ensures.other c.ask_proof-found.ensures.lacks fits
