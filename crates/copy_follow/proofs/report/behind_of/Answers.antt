use Rattle.std.proofs.Common.{◌≡◌, []}
use Rattle.copy_follow.proofs.Settled.{behind_first, empty_by}
use Rattle.copy_follow.proofs.report.behind_of.Goals as goal

pub returns-then-first-copy : goal.returns-then-first-copy
returns-then-first-copy c =
    let no_forks : c.args.forks.now ≡ [] = empty_by c.args.forks.now c.is_empty.result c.is_empty.ensures c.if-not-is_empty.false in
    let no_larger : c.args.larger.now ≡ [] =
    empty_by c.args.larger.now c.is_empty-else-not-is_empty.result c.is_empty-else-not-is_empty.ensures
    c.if-not-is_empty-2.false in
    let item = c.in-Some-first.ensures.item in
    behind_first c.args.candidates.now c.requires c.args.copy.now c.in-Some.copy c.args.forks.now c.args.larger.now c.in-Some.is
    no_forks no_larger c.in-Some-first.first.now item.3.0 item.1 c.if-first-copy.true
