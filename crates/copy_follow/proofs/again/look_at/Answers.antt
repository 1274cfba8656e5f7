use Rattle.std.proofs.Common.{Some, arith}
use Rattle.copy_places.specs.Lines.{IsInSomeLine}
use Rattle.copy_places.proofs.Requests.{any_same}
use Rattle.copy_follow.specs.Told.{HasReason}
use Rattle.copy_follow.proofs.Telling.{shown_or}
use Rattle.copy_follow.proofs.again.look_at.Goals as goal

pub returns-then-candidate-copy-clause-asks : goal.returns-then-candidate-copy-clause-asks
returns-then-candidate-copy-clause-asks g c =
    any_same g.S.Source.may_answer g.S.Source.failed g.S.Source.asked c.args.places.now

pub returns-then-candidate-copy-clause-tells : goal.returns-then-candidate-copy-clause-tells
returns-then-candidate-copy-clause-tells g c = λ larger. absurd (omega (arith, larger, c.if-candidate-copy.true))

pub returns-in-Ok-add_shown-clause-tells : goal.returns-in-Ok-add_shown-clause-tells
returns-in-Ok-add_shown-clause-tells g c = λ larger.
    shown_or c.in-Ok.turn (IsInSomeLine c.add_shown.new.forks.items c.args.candidate.now)
    (HasReason g.H.TreeHash.digest g.S.Source.may_answer g.S.Source.failed g.S.Source.asked c.args.places.now
    c.proof_again.new.places (Some c.args.copy.now) c.args.candidate.now) c.in-Ok-add_shown.ensures.tells c.in-Ok.ensures.tells

pub returns-in-Ok-add_shown-clause-adds : goal.returns-in-Ok-add_shown-clause-adds
returns-in-Ok-add_shown-clause-adds g c = c.in-Ok-add_shown.ensures.adds g.H.TreeHash.digest c.in-Ok.ensures.shows
