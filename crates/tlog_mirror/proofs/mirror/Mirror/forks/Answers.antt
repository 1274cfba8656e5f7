use Rattle.std.proofs.Common.{ℕ, List, subst}
use Rattle.std.specs.Prelude.{◌↔◌, string_bytes}
use Rattle.std.specs.List.{Contains}
use Rattle.std.proofs.lemmas.Result.{IfOk-weaker}
use Rattle.mirror_trees.specs.Marked.{point_of}
use Rattle.mirror_model.specs.Reports.{ReportsForks}
use Rattle.tlog_mirror.specs.Forks.{AreForksOf}
use Rattle.mirror_trees.specs.Best.{HasKept}
use Rattle.tlog_mirror.proofs.FoundForks.{reports_forks}
use Rattle.tlog_mirror.proofs.KnownTrees.{all_known}
use Rattle.tlog_mirror.proofs.mirror.Mirror.forks.Goals as goal

pub forks_of-requires-clause-known : goal.forks_of-requires-clause-known
forks_of-requires-clause-known g c = all_known g.H.TreeHash.digest _ _ _ c.self.inside.known c.self.invariant

pub returns : goal.returns
returns g c =
    let points = c.in-Ok.points.items in
    let exact =
    subst (λ kept. (p : ℕ × List ℕ) →
    Contains points p ↔ HasKept kept (point_of p)) c.as_slice.ensures.value c.in-Ok.ensures.exact in
    IfOk-weaker c.forks_of.result (λ forks. AreForksOf g.H.TreeHash.digest c.self.inside.strings points forks.items)
    (λ forks. ReportsForks g.H.TreeHash.digest c.args.self.now.view forks.items)
    (λ forks are. reports_forks g.H.TreeHash.digest
    (string_bytes c.self.inside.origin) c.self.inside.kept.items c.self.inside.strings c.self.inside.known.remembered
    c.self.invariant.0 points exact c.args.self.now c.self.view_is forks.items are)
    (rw c.as_slice-2.ensures.value at c.forks_of.ensures)
