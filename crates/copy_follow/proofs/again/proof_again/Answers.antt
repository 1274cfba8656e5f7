use Rattle.copy_follow.proofs.Looking.{asks_then}
use Rattle.std.proofs.Common.{ℕ, Some, ap}
use Rattle.copy_places.proofs.Answered.{answered_none}
use Rattle.copy_places.proofs.Requests.{any_same}
use Rattle.copy_follow.proofs.Telling.{fork_later}
use Rattle.copy_follow.proofs.again.proof_again.Goals as goal

pub returns-clause-asks : goal.returns-clause-asks
returns-clause-asks g c =
    asks_then g.S.Source.may_answer g.S.Source.failed g.S.Source.asked c.args.places.now c.keep_ends.new.self
    c.contradict.new.places c.keep_ends.ensures.list c.contradict.ensures.asks

pub returns-clause-tells : goal.returns-clause-tells
returns-clause-tells g c =
    let may = g.S.Source.may_answer in
    let failed = g.S.Source.failed in
    let asked = g.S.Source.asked in
    let x = c.args.places.now in
    let y = c.keep_ends.new.self in
    let ends = c.keep_ends.ensures.ends in
    fork_later g.H.TreeHash.digest may failed asked x y c.contradict.new.places (Some c.args.copy.now) c.args.candidate.now
    c.contradict.result (asks_then may failed asked x y y c.keep_ends.ensures.list (any_same may failed asked y))
    (c.contradict.ensures.tells y (any_same may failed asked y)
    (answered_none may y y c.keep_ends.ensures.none) (ap (λ (p : ℕ × ℕ). p.0) ends, ap (λ (p : ℕ × ℕ). p.1) ends))
