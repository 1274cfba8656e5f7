use Rattle.copy_places.proofs.Opened.{one_given, one_open, one_rises, only_open}
use Rattle.copy_places.proofs.candidates.given_candidate.Goals as goal

pub returns-clause-opened : goal.returns-clause-opened
returns-clause-opened g c =
    one_open c.args.origin.now _ c.args.note.items c.in-Ok.candidate c.new-candidates.result.items c.push.new.self.items
    c.in-Ok.ensures c.new-candidates.ensures.items c.in_ok-push-in-Ok.ensures.items

pub returns-clause-given : goal.returns-clause-given
returns-clause-given g c =
    one_given c.args.origin.now _ c.args.note.items c.in-Ok.candidate c.new-candidates.result.items c.push.new.self.items
    c.in-Ok.ensures c.new-candidates.ensures.items c.in_ok-push-in-Ok.ensures.items

pub returns-clause-only : goal.returns-clause-only
returns-clause-only g c =
    only_open c.args.origin.now _ c.args.note.items c.in-Ok.candidate c.new-candidates.result.items c.push.new.self.items
    c.in-Ok.ensures c.new-candidates.ensures.items c.in_ok-push-in-Ok.ensures.items

pub returns-clause-rising : goal.returns-clause-rising
returns-clause-rising g c =
    one_rises c.in-Ok.candidate c.new-candidates.result.items c.push.new.self.items c.new-candidates.ensures.items
    c.in_ok-push-in-Ok.ensures.items
