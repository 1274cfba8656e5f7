use Rattle.std.proofs.Common.{sym, subst}
use Rattle.std.specs.Prelude.{◌↔◌}
use Rattle.std.specs.List.{Contains}
use Rattle.mirror_trees.specs.Marked.{point_of}
use Rattle.mirror_trees.specs.Best.{HasKept}
use Rattle.tlog_mirror.proofs.HeadLists.{kept_points}
use Rattle.tlog_mirror.proofs.heads.points_of.Goals as goal

pub returns-clause-exact : goal.returns-clause-exact
returns-clause-exact c = λ p.
    let at = subst (λ xs. Contains xs p ↔ HasKept c.args.kept.now (point_of p)) (sym c.in-Ok.ensures)
    (kept_points c.args.kept.now p) in
    let same = c.put_in_order.ensures.same p in
    (λ h. at.0 (same.0 h), λ h. same.1 (at.1 h))
