use Rattle.std.proofs.Common.{map, sym, true≢false, ◌∙◌, inl, inr, refl, subst}
use Rattle.log_reader.proofs.Kept.{kept_once}
use Rattle.copy_places.proofs.Requests.{any_same}
use Rattle.copy_places.specs.Candidates.{note_of}
use Rattle.copy_follow.proofs.Ending.{keeps_again, keeps_at}
use Rattle.copy_follow.proofs.Runs.{each_none, listed_note}
use Rattle.copy_follow.proofs.Taken.{taken_repeat, turn_ok}
use Rattle.copy_follow.proofs.Turning.{run_same}
use Rattle.copy_follow.specs.OneHonestRun.{BringsTo, IsHonestTurn}
use Rattle.copy_follow.specs.RunStanding.{HasStanding}
use Rattle.copy_follow.specs.TurnsTaken.{IsLargerThan}
use Rattle.copy_follow.proofs.OneHonestRun.{same_at, steps_at}
use Rattle.copy_follow.proofs.Telling.{told_at, told_repeat}
use Rattle.copy_follow.proofs.turns.take_turn_at.Goals as goal

pub returns-then-is_repeated-clause-keeps : goal.returns-then-is_repeated-clause-keeps
returns-then-is_repeated-clause-keeps g c =
    let x = g.D.Shelf.puts c.args.shelf.now in
    each_none g.H.TreeHash.digest c.args.origin.now (map note_of c.args.candidates.now) x x (kept_once x)

pub returns-then-is_repeated-clause-run : goal.returns-then-is_repeated-clause-run
returns-then-is_repeated-clause-run g c = run_same _ _ (g.D.Shelf.puts c.args.shelf.now) c.args.run.now

pub returns-clause-keeps : goal.returns-clause-keeps
returns-clause-keeps g c =
    c.take_turn.ensures.keeps (map note_of c.args.candidates.now)
    (listed_note c.args.candidates.now c.args.i c.index-candidates-i.result c.requires.within c.index-candidates-i.is)

pub returns-then-is_repeated-clause-asks : goal.returns-then-is_repeated-clause-asks
returns-then-is_repeated-clause-asks g c = any_same g.S.Source.may_answer g.S.Source.failed g.S.Source.asked c.args.places.now

pub returns-then-is_repeated-clause-taken : goal.returns-then-is_repeated-clause-taken
returns-then-is_repeated-clause-taken g c =
    λ first rises h. taken_repeat g.H.TreeHash.digest first c.args.candidates.now rises c.args.i c.requires.within
    (c.is_repeated.ensures.is.0 c.if-is_repeated.true) c.args.run.now h

pub returns-clause-taken : goal.returns-clause-taken
returns-clause-taken g c =
    turn_ok g.H.TreeHash.digest c.take_turn.result c.args.candidates.now c.args.i c.requires.within c.index-candidates-i.result
    c.index-candidates-i.is (λ r. true≢false (sym (c.is_repeated.ensures.is.1 r) ∙ c.if-is_repeated.false)) c.args.run.now
    c.take_turn.new.run c.take_turn.ensures.taken

pub returns-then-is_repeated-clause-fault : goal.returns-then-is_repeated-clause-fault
returns-then-is_repeated-clause-fault g c =
    keeps_again g.H.TreeHash.digest c.args.candidates.now c.args.i (c.is_repeated.ensures.some c.if-is_repeated.true)
    c.requires.within c.args.run.now

pub returns-clause-fault : goal.returns-clause-fault
returns-clause-fault g c =
    keeps_at g.H.TreeHash.digest c.take_turn.result c.args.candidates.now c.args.i c.index-candidates-i.result
    c.requires.within c.index-candidates-i.is c.args.run.now c.take_turn.new.run c.take_turn.ensures.fault

pub returns-then-is_repeated-clause-suffices : goal.returns-then-is_repeated-clause-suffices
returns-then-is_repeated-clause-suffices g c = inl (c.is_repeated.ensures.is.0 c.if-is_repeated.true)

pub returns-clause-suffices : goal.returns-clause-suffices
returns-clause-suffices g c =
    let x = g.D.Shelf.puts c.args.shelf.now in
    inr (λ candidate is. subst (λ d. HasStanding g.H.TreeHash.digest c.args.origin.now c.args.run.now.copy x →
    IsLargerThan c.args.run.now.copy d →
    IsHonestTurn g.H.TreeHash.digest g.S.Source.may_answer x c.args.places.now c.take_turn.new.places c.args.origin.now d →
    BringsTo d c.take_turn.new.run.copy c.take_turn.result)
    (same_at c.args.candidates.now c.args.i c.requires.within c.index-candidates-i.result candidate
    c.index-candidates-i.is is) c.take_turn.ensures.suffices)

pub returns-then-is_repeated-clause-steps : goal.returns-then-is_repeated-clause-steps
returns-then-is_repeated-clause-steps g c = λ candidate is. inl refl

pub returns-clause-steps : goal.returns-clause-steps
returns-clause-steps g c =
    steps_at c.take_turn.result c.args.candidates.now c.args.i c.requires.within c.index-candidates-i.result
    c.index-candidates-i.is c.args.run.now.copy c.take_turn.new.run.copy c.take_turn.ensures.steps

pub returns-then-is_repeated-clause-tells : goal.returns-then-is_repeated-clause-tells
returns-then-is_repeated-clause-tells g c = λ start rises asks told.
    told_repeat g.H.TreeHash.digest g.S.Source.may_answer g.S.Source.failed g.S.Source.asked start c.args.places.now
    c.args.candidates.now rises c.args.i c.requires.within (c.is_repeated.ensures.is.0 c.if-is_repeated.true) c.args.run.now told

pub returns-clause-tells : goal.returns-clause-tells
returns-clause-tells g c =
    told_at g.H.TreeHash.digest g.S.Source.may_answer g.S.Source.failed g.S.Source.asked c.take_turn.result c.args.places.now
    c.take_turn.new.places c.args.candidates.now c.args.i c.requires.within c.index-candidates-i.result
    c.index-candidates-i.is c.args.run.now c.take_turn.new.run c.take_turn.ensures.tells
