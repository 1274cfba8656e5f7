use Rattle.std.proofs.Common.{◌≡◌, ◌≢◌, rules}
use Rattle.copy_follow.proofs.Lining.{beside_added}
use Rattle.copy_follow.proofs.lines.add_beside.Goals as goal

pub returns : goal.returns
returns c =
    let size : c.args.candidate.now.size.0 ≡ c.args.copy.now.size.0 = search rules in
    let apart : c.args.copy.now.root ≢ c.args.candidate.now.root = search rules in
    beside_added c.add_fork.result c.args.copy.now c.args.candidate.now c.args.lines.now.items c.add_fork.new.lines.items size
    apart c.add_fork.ensures.shows c.add_fork.ensures.kept c.add_fork.ensures.second c.add_fork.ensures.adds
