use Rattle.std.proofs.Common.{ℕ, List, subst}
use Rattle.std.specs.Prelude.{◌↔◌, string_bytes}
use Rattle.std.specs.List.{Contains}
use Rattle.mirror_trees.specs.Marked.{point_of}
use Rattle.mirror_trees.specs.Best.{HasKept}
use Rattle.tlog_mirror.proofs.FoundForks.{reports_forks, written}
use Rattle.tlog_mirror.proofs.KnownTrees.{all_known}
use Rattle.tlog_mirror.proofs.mirror.Mirror.write_forks.Goals as goal

pub write_forks-requires-clause-known : goal.write_forks-requires-clause-known
write_forks-requires-clause-known g c = all_known g.H.TreeHash.digest _ _ _ c.self.inside.known c.self.invariant

pub returns : goal.returns
returns g c =
    let points = c.in-Ok.points.items in
    let exact =
    subst (λ kept. (p : ℕ × List ℕ) →
    Contains points p ↔ HasKept kept (point_of p)) c.as_slice.ensures.value c.in-Ok.ensures.exact in
    written g.H.TreeHash.digest c.args.self.now.view c.self.inside.strings points
    (reports_forks g.H.TreeHash.digest
    (string_bytes c.self.inside.origin) c.self.inside.kept.items c.self.inside.strings c.self.inside.known.remembered
    c.self.invariant.0 points exact c.args.self.now c.self.view_is)
    (g.W.Write.contents c.args.output.now) (g.W.Write.contents c.write_forks.new.output) c.write_forks.result
    (rw c.as_slice-2.ensures.value at c.write_forks.ensures)
