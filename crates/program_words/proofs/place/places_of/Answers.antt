use Rattle.std.proofs.Common.{arith}
use Rattle.std.proofs.lemmas.Result.{IfOk-from_err}
use Rattle.program_words.proofs.Places.{bad_found, odd_at}
use Rattle.program_words.proofs.place.places_of.Goals as goal

pub returns-in_default : goal.returns-in_default
returns-in_default c = λ every are.
    bad_found c.args.words.now c.loop-at.at _ _ c.loop-at.places.items every _
    (omega (arith, c.loop-at-test.true, c.if-words-at-lt2.false)) c.in_default.is c.in_ok-place.ensures
    c.loop-at.invariant are

pub returns-then-words-at-lt2 : goal.returns-then-words-at-lt2
returns-then-words-at-lt2 c = λ every are.
    odd_at c.args.words.now c.loop-at.at c.loop-at.places.items every (omega (arith, c.loop-at-test.true))
    (omega (arith, c.loop-at-test.true, c.if-words-at-lt2.true)) c.loop-at.invariant are

pub returns-in_err-place : goal.returns-in_err-place
returns-in_err-place c = IfOk-from_err c.from_residual.result _ c.from_residual.ensures.0

pub returns-in_err-push : goal.returns-in_err-push
returns-in_err-push c = let exit = c.from_residual-in_err-push in IfOk-from_err exit.result _ exit.ensures.0
