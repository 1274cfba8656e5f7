use Rattle.std.proofs.Common.{◌≡◌, ◌≢◌, rules}
use Rattle.copy_follow.specs.TurnsTaken.{IsLargerThan}
use Rattle.copy_follow.proofs.Lining.{equal_added, equal_least}
use Rattle.copy_follow.proofs.lines.add_equal.Goals as goal

pub returns-then-eq : goal.returns-then-eq
returns-then-eq c =
    let same : c.least_of-least.result.now.root ≡ c.args.candidate.now.root = search rules in
    equal_least c.args.copy.now c.args.candidates.now c.args.candidate.now c.least_of-least.result.now c.args.lines.now.items
    c.least_of-least.ensures same

pub returns : goal.returns
returns c =
    let apart : c.least_of-least.result.now.root ≢ c.args.candidate.now.root = search rules in
    let above : IsLargerThan c.args.copy.now c.args.candidate.now = c.exceeds.ensures.0 (search rules) in
    equal_added c.args.copy.now c.args.candidates.now c.add_fork.result c.least_of-least.result.now c.args.candidate.now
    c.args.lines.now.items c.add_fork.new.lines.items above c.least_of-least.ensures c.requires.listed apart
    c.add_fork.ensures.shows c.add_fork.ensures.kept c.add_fork.ensures.second c.add_fork.ensures.adds
