use Rattle.std.proofs.Common.{None, Some, ap, subst}
use Rattle.std.specs.Prelude.{string_bytes}
use Rattle.mirror_model.specs.Forks.{Point}
use Rattle.mirror_model.specs.Marks.{State}
use Rattle.mirror_trees.specs.Best.{IsBestOf, IsFirstWith}
use Rattle.tlog_mirror.specs.Kept.{note_bytes}
use Rattle.mirror_trees.specs.Tops.{IsServedAs}
use Rattle.tlog_mirror.proofs.ServedNotes.{first_served, none_served}
use Rattle.tlog_mirror.proofs.mirror.Mirror.top_leaves.Goals as goal

pub returns-in_default-best-clause-none : goal.returns-in_default-best-clause-none
returns-in_default-best-clause-none g c =
    none_served g.H.TreeHash.digest
    (string_bytes c.self.inside.origin) c.self.inside.kept.items c.self.inside.strings c.self.inside.known.remembered
    c.self.invariant.0 c.args.self.now c.self.view_is
    (subst (λ kept. IsBestOf g.H.TreeHash.digest c.self.inside.strings kept None) c.as_slice-kept.ensures.value
    (subst (IsBestOf g.H.TreeHash.digest c.self.inside.strings c.as_slice-kept.result.now) c.in_default-best.is
    c.in-Ok.ensures.best))

pub returns-clause-some : goal.returns-clause-some
returns-clause-some g c =
    let d = g.H.TreeHash.digest in
    let v = c.args.self.now.view in
    let kept = c.self.inside.kept.items in
    let one = c.in-Some-first_with.first.now in
    let best : IsBestOf d c.self.inside.strings kept (Some c.in-Some.point) =
    subst (λ xs. IsBestOf d c.self.inside.strings xs (Some c.in-Some.point)) c.as_slice-kept.ensures.value
    (subst (IsBestOf d c.self.inside.strings c.as_slice-kept.result.now) c.in-Some.is c.in-Ok.ensures.best) in
    let first : IsFirstWith kept (record { size = c.in-Some.point.0; root = c.in-Some.point.1 }) one =
    rw c.as_slice-kept.ensures.value at c.in-Some-first_with.ensures.some in
    let served : IsServedAs d v (note_bytes one) one.size one.root =
    first_served d (string_bytes c.self.inside.origin) kept c.self.inside.strings c.self.inside.known.remembered
    c.self.invariant.0 c.args.self.now c.self.view_is c.in-Some.point (Some c.in-Some-first_with.first) best first in
    rw c.new.ensures (record {
      strings_are = ap (λ (s : State). s.view.strings) c.self.view_is;
      served = subst (λ (p : Point). IsServedAs d v (note_bytes one) p.size p.root) first.is served;
    })
