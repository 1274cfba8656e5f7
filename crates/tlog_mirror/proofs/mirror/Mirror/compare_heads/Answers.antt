use Rattle.std.proofs.Common.{ℕ, List, subst}
use Rattle.std.specs.Prelude.{◌↔◌, string_bytes}
use Rattle.std.specs.List.{Contains}
use Rattle.mirror_trees.specs.Marked.{point_of}
use Rattle.mirror_trees.specs.Best.{HasKept}
use Rattle.tlog_mirror.proofs.ComparedHeads.{held_reported}
use Rattle.tlog_mirror.proofs.HeadLists.{listed_points}
use Rattle.tlog_mirror.proofs.mirror.Mirror.compare_heads.Goals as goal

pub returns-clause-some : goal.returns-clause-some
returns-clause-some g c =
    let points = c.in-Ok.heads.items in
    let exact =
    subst (λ kept. (p : ℕ × List ℕ) →
    Contains points p ↔ HasKept kept (point_of p)) c.as_slice.ensures.value c.in-Ok.ensures.exact in
    held_reported g.H.TreeHash.digest c.args.self.now.view (λ x. x.items) points c.compare.result
    (listed_points g.H.TreeHash.digest
    (string_bytes c.self.inside.origin) c.self.inside.kept.items c.self.inside.strings c.self.inside.known.remembered
    c.self.invariant.0 c.args.self.now c.self.view_is points c.in-Ok.ensures.sorted exact)
    (rw c.as_slice-2.ensures.value at c.compare.ensures.some)
