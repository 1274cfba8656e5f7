use Rattle.copy_follow.proofs.Lining.{to_copy_some}
use Rattle.copy_follow.proofs.lines.add_to_copy.Goals as goal

pub returns-in-Some : goal.returns-in-Some
returns-in-Some c =
    to_copy_some c.add_all_beside.result c.args.copy.now c.in-Some.copy c.args.candidates.now c.args.lines.now.items
    c.add_all_beside.new.lines.items c.in-Some.is c.add_all_beside.ensures
