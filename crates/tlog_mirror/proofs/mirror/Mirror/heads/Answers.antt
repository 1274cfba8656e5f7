use Rattle.std.proofs.Common.{ℕ, List, subst}
use Rattle.std.specs.Prelude.{◌↔◌, string_bytes}
use Rattle.std.specs.List.{Contains}
use Rattle.tlog_mirror.proofs.KnownTrees.{all_known}
use Rattle.mirror_trees.specs.Marked.{point_of}
use Rattle.mirror_trees.specs.Best.{HasKept}
use Rattle.tlog_mirror.proofs.HeadLists.{reported}
use Rattle.tlog_mirror.proofs.mirror.Mirror.heads.Goals as goal

pub flag_heads-requires : goal.flag_heads-requires
flag_heads-requires g c = all_known g.H.TreeHash.digest _ _ _ c.self.inside.known c.self.invariant

pub returns : goal.returns
returns g c =
    let points = c.in-Ok.points.items in
    let exact =
    subst (λ kept. (p : ℕ × List ℕ) →
    Contains points p ↔ HasKept kept (point_of p)) c.as_slice.ensures.value c.in-Ok.ensures.exact in
    reported g.H.TreeHash.digest
    (string_bytes c.self.inside.origin) c.self.inside.kept.items c.self.inside.strings c.self.inside.known.remembered
    c.self.invariant.0 c.args.self.now c.self.view_is
    points c.in-Ok.ensures.sorted exact (λ heads. heads.items) c.flag_heads.result
    (rw c.as_slice-2.ensures.value at c.flag_heads.ensures.points) c.flag_heads.ensures.flags
