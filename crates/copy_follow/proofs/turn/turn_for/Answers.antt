use Rattle.std.proofs.Common.{◌<◌, IfErr, IfOk, arith, subst, sym}
use Rattle.copy_places.proofs.Requests.{any_same}
use Rattle.copy_follow.specs.Turning.{ShowsTurn}
use Rattle.copy_follow.specs.Ending.{EndsAt}
use Rattle.copy_follow.specs.RunStanding.{HasStanding}
use Rattle.copy_follow.specs.TurnsTaken.{IsLargerThan, SaysTurn}
use Rattle.copy_follow.proofs.Ending.{empty_says, empty_shows}
use Rattle.copy_follow.proofs.Taken.{says_held, says_noted}
use Rattle.copy_follow.proofs.Telling.{tells_held, tells_none, tells_upto}
use Rattle.copy_follow.proofs.turn.turn_for.Goals as goal

pub returns-then-has_lesser_note-clause-asks : goal.returns-then-has_lesser_note-clause-asks
returns-then-has_lesser_note-clause-asks g c = any_same g.S.Source.may_answer g.S.Source.failed g.S.Source.asked c.args.places.now

pub returns-then-candidate-copy-clause-asks : goal.returns-then-candidate-copy-clause-asks
returns-then-candidate-copy-clause-asks g c = any_same g.S.Source.may_answer g.S.Source.failed g.S.Source.asked c.args.places.now

pub returns-in_default-clause-says : goal.returns-in_default-clause-says
returns-in_default-clause-says g c =
    let digest = g.H.TreeHash.digest in
    let candidate = c.args.candidate.now in
    subst (λ o. IfOk c.take_first.result (SaysTurn digest o candidate)) (sym c.in_default.is)
    (empty_says digest c.take_first.result candidate c.take_first.ensures.empty)

pub returns-in_default-clause-shows : goal.returns-in_default-clause-shows
returns-in_default-clause-shows g c =
    let digest = g.H.TreeHash.digest in
    let candidate = c.args.candidate.now in
    subst (λ o. IfOk c.take_first.result (ShowsTurn digest o candidate)) (sym c.in_default.is)
    (empty_shows digest c.take_first.result candidate c.take_first.ensures.empty)

pub returns-then-has_lesser_note-clause-says : goal.returns-then-has_lesser_note-clause-says
returns-then-has_lesser_note-clause-says g c =
    says_held g.H.TreeHash.digest c.renote.result c.args.run.now.copy c.args.candidate.now c.in-Some.copy c.in-Some.is
    c.renote.ensures.says

pub returns-then-candidate-copy-clause-says : goal.returns-then-candidate-copy-clause-says
returns-then-candidate-copy-clause-says g c =
    says_noted g.H.TreeHash.digest c.compare.result c.args.run.now.copy c.args.candidate.now c.in-Some.copy c.in-Some.is
    (c.has_lesser_note.ensures.other c.if-has_lesser_note.false) c.compare.ensures.says

pub returns-clause-says : goal.returns-clause-says
returns-clause-says g c =
    says_held g.H.TreeHash.digest c.take_larger.result c.args.run.now.copy c.args.candidate.now c.in-Some.copy c.in-Some.is
    c.take_larger.ensures.says

-- ---- there is a copy, so no answer is due for an empty one

pub returns-then-has_lesser_note-clause-empty : goal.returns-then-has_lesser_note-clause-empty
returns-then-has_lesser_note-clause-empty g c = λ none. absurd (cc (none, c.in-Some.is))

pub returns-then-candidate-copy-clause-empty : goal.returns-then-candidate-copy-clause-empty
returns-then-candidate-copy-clause-empty g c = λ none. absurd (cc (none, c.in-Some.is))

pub returns-clause-empty : goal.returns-clause-empty
returns-clause-empty g c = λ none. absurd (cc (none, c.in-Some.is))

-- ---- there is none

pub returns-in_default-clause-empty : goal.returns-in_default-clause-empty
returns-in_default-clause-empty g c = λ none. c.take_first.ensures.empty

pub returns-in_default-clause-suffices : goal.returns-in_default-clause-suffices
returns-in_default-clause-suffices g c = λ stands larger.
    c.take_first.ensures.suffices (subst
    (λ o. HasStanding g.H.TreeHash.digest c.args.origin.now o (g.D.Shelf.puts c.args.shelf.now))
    c.in_default.is stands)

pub returns-in_default-clause-ends : goal.returns-in_default-clause-ends
returns-in_default-clause-ends g c =
    subst
    (λ o. IfErr c.take_first.result
    (EndsAt (HasStanding g.H.TreeHash.digest c.args.origin.now o (g.D.Shelf.puts c.args.shelf.now) → ⊥)))
    (sym c.in_default.is) c.take_first.ensures.ends

-- ---- the candidate is larger, or it is not

pub returns-clause-suffices : goal.returns-clause-suffices
returns-clause-suffices g c = λ stands larger.
    c.take_larger.ensures.suffices (subst
    (λ o. HasStanding g.H.TreeHash.digest c.args.origin.now o (g.D.Shelf.puts c.args.shelf.now))
    c.in-Some.is stands)

pub returns-then-has_lesser_note-clause-suffices : goal.returns-then-has_lesser_note-clause-suffices
returns-then-has_lesser_note-clause-suffices g c = λ stands larger h.
    let lt : c.in-Some.copy.size.0 < c.args.candidate.now.size.0 =
    subst (λ o. IsLargerThan o c.args.candidate.now) c.in-Some.is larger in
    let same = c.has_lesser_note.ensures.point c.if-has_lesser_note.true in
    absurd (omega (arith, lt, same.0))

pub returns-then-candidate-copy-clause-suffices : goal.returns-then-candidate-copy-clause-suffices
returns-then-candidate-copy-clause-suffices g c = λ stands larger h.
    let lt : c.in-Some.copy.size.0 < c.args.candidate.now.size.0 =
    subst (λ o. IsLargerThan o c.args.candidate.now) c.in-Some.is larger in
    absurd (omega (arith, lt, c.if-candidate-copy.true))

-- ---- a turn over the copy

pub returns-then-has_lesser_note-clause-ends : goal.returns-then-has_lesser_note-clause-ends
returns-then-has_lesser_note-clause-ends g c =
    subst
    (λ o. IfErr c.renote.result
    (EndsAt (HasStanding g.H.TreeHash.digest c.args.origin.now o (g.D.Shelf.puts c.args.shelf.now) → ⊥)))
    (sym c.in-Some.is) c.renote.ensures.ends

pub returns-then-candidate-copy-clause-ends : goal.returns-then-candidate-copy-clause-ends
returns-then-candidate-copy-clause-ends g c =
    subst
    (λ o. IfErr c.compare.result
    (EndsAt (HasStanding g.H.TreeHash.digest c.args.origin.now o (g.D.Shelf.puts c.args.shelf.now) → ⊥)))
    (sym c.in-Some.is) c.compare.ensures.ends

pub returns-clause-ends : goal.returns-clause-ends
returns-clause-ends g c =
    subst
    (λ o. IfErr c.take_larger.result
    (EndsAt (HasStanding g.H.TreeHash.digest c.args.origin.now o (g.D.Shelf.puts c.args.shelf.now) → ⊥)))
    (sym c.in-Some.is) c.take_larger.ensures.ends

pub returns-then-has_lesser_note-clause-shows : goal.returns-then-has_lesser_note-clause-shows
returns-then-has_lesser_note-clause-shows g c =
    subst (λ o. IfOk c.renote.result (ShowsTurn g.H.TreeHash.digest o c.args.candidate.now)) (sym c.in-Some.is)
    c.renote.ensures.shows

pub returns-then-candidate-copy-clause-shows : goal.returns-then-candidate-copy-clause-shows
returns-then-candidate-copy-clause-shows g c =
    subst (λ o. IfOk c.compare.result (ShowsTurn g.H.TreeHash.digest o c.args.candidate.now)) (sym c.in-Some.is)
    c.compare.ensures.shows

pub returns-clause-shows : goal.returns-clause-shows
returns-clause-shows g c =
    subst (λ o. IfOk c.take_larger.result (ShowsTurn g.H.TreeHash.digest o c.args.candidate.now)) (sym c.in-Some.is)
    c.take_larger.ensures.shows

-- ---- why a larger candidate is no fork

pub returns-in_default-clause-tells : goal.returns-in_default-clause-tells
returns-in_default-clause-tells g c =
    tells_none g.H.TreeHash.digest g.S.Source.may_answer g.S.Source.failed g.S.Source.asked c.args.places.now
    c.take_first.new.places c.args.run.now.copy c.args.candidate.now c.take_first.result c.in_default.is

pub returns-then-has_lesser_note-clause-tells : goal.returns-then-has_lesser_note-clause-tells
returns-then-has_lesser_note-clause-tells g c =
    let same = c.has_lesser_note.ensures.point c.if-has_lesser_note.true in
    tells_upto g.H.TreeHash.digest g.S.Source.may_answer g.S.Source.failed g.S.Source.asked c.args.places.now c.args.places.now
    c.args.run.now.copy c.in-Some.copy c.args.candidate.now c.renote.result c.in-Some.is (omega (arith, same.0))
    (returns-then-has_lesser_note-clause-says g c)

pub returns-then-candidate-copy-clause-tells : goal.returns-then-candidate-copy-clause-tells
returns-then-candidate-copy-clause-tells g c =
    tells_upto g.H.TreeHash.digest g.S.Source.may_answer g.S.Source.failed g.S.Source.asked c.args.places.now c.args.places.now
    c.args.run.now.copy c.in-Some.copy c.args.candidate.now c.compare.result c.in-Some.is
    (omega (arith, c.if-candidate-copy.true)) (returns-then-candidate-copy-clause-says g c)

pub returns-clause-tells : goal.returns-clause-tells
returns-clause-tells g c =
    tells_held g.H.TreeHash.digest g.S.Source.may_answer g.S.Source.failed g.S.Source.asked c.args.places.now
    c.take_larger.new.places c.args.run.now.copy c.in-Some.copy c.args.candidate.now c.take_larger.result c.in-Some.is
    c.take_larger.ensures.tells
