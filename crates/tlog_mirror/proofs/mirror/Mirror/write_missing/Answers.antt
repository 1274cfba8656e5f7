use Rattle.std.proofs.Common.{◌≤◌, ◌^◌, sym, ap, subst, arith}
use Rattle.std.specs.Prelude.{string_bytes, Err}
use Rattle.std.proofs.KnownBytes.{Keeps-refl}
use Rattle.node_store.specs.Strings.{NoClash}
use Rattle.mirror_model.specs.Marks.{State}
use Rattle.mirror_trees.specs.Levels.{ListsLevels}
use Rattle.tlog_mirror.proofs.WrittenMissing.{whole, failed}
use Rattle.tlog_mirror.proofs.ServedNotes.{no_head_held, head_held}
use Rattle.tlog_mirror.proofs.mirror.Mirror.write_missing.Goals as goal

pub returns-then-is_none : goal.returns-then-is_none
returns-then-is_none g c = record {
  none =
      no_head_held g.H.TreeHash.digest
      (string_bytes c.self.inside.origin) c.self.inside.kept.items c.self.inside.strings
      c.self.inside.known.remembered c.self.invariant.0 c.args.self.now c.self.view_is c.args.size c.args.root.now
      c.first_with.result c.is_none.result c.is_none.ensures c.if-is_none.true
      (rw c.as_slice.ensures.value at c.first_with.ensures.none);
  kept = Keeps-refl (g.W.Write.contents c.args.output.now);
}

pub returns-in-Err : goal.returns-in-Err
returns-in-Err g c =
    let old = g.W.Write.contents c.args.output.now in
    let new = g.W.Write.contents c.write_missing.new.output in
    let head =
    head_held g.H.TreeHash.digest
    (string_bytes c.self.inside.origin) c.self.inside.kept.items c.self.inside.strings c.self.inside.known.remembered
    c.self.invariant.0 c.args.self.now c.self.view_is c.args.size c.args.root.now
    c.first_with.result c.is_none.result c.is_none.ensures c.if-is_none.false
    (rw c.as_slice.ensures.value at c.first_with.ensures.some) in
    let clean : NoClash g.H.TreeHash.digest c.args.self.now.view.strings =
    subst (λ (s : State). NoClash g.H.TreeHash.digest s.view.strings) c.self.view_is
    c.self.invariant.0.sound.lawful.no_clash in
    let small : c.args.size ≤ 256 ^ 8 = let fits = c.ranges.size.fits in omega (arith, fits) in
    let same = ap (λ (s : State). s.view.strings) c.self.view_is in
    let f = c.in-Err.fault in
    failed g.H.TreeHash.digest c.args.self.now.view c.args.size c.args.root.now head clean small old new f
    (λ is paths lists. c.in-Err.ensures.err (ap Err is) paths
    (subst (λ strings. ListsLevels g.H.TreeHash.digest strings c.args.size c.args.root.now 8 paths) (sym same) lists))
    (λ is. c.in-Err.ensures.memory (ap Err is)) c.in-Err.ensures.fault

pub returns-in-Ok : goal.returns-in-Ok
returns-in-Ok g c =
    let old = g.W.Write.contents c.args.output.now in
    let new = g.W.Write.contents c.write_missing.new.output in
    let head =
    head_held g.H.TreeHash.digest
    (string_bytes c.self.inside.origin) c.self.inside.kept.items c.self.inside.strings c.self.inside.known.remembered
    c.self.invariant.0 c.args.self.now c.self.view_is c.args.size c.args.root.now
    c.first_with.result c.is_none.result c.is_none.ensures c.if-is_none.false
    (rw c.as_slice.ensures.value at c.first_with.ensures.some) in
    let clean : NoClash g.H.TreeHash.digest c.args.self.now.view.strings =
    subst (λ (s : State). NoClash g.H.TreeHash.digest s.view.strings) c.self.view_is
    c.self.invariant.0.sound.lawful.no_clash in
    let small : c.args.size ≤ 256 ^ 8 = let fits = c.ranges.size.fits in omega (arith, fits) in
    let same = ap (λ (s : State). s.view.strings) c.self.view_is in
    whole g.H.TreeHash.digest c.args.self.now.view c.args.size c.args.root.now head clean small old new c.in-Ok.any
    (λ paths lists. c.in-Ok.ensures.ok paths
    (subst (λ strings. ListsLevels g.H.TreeHash.digest strings c.args.size c.args.root.now 8 paths) (sym same) lists))
    (λ paths lists. c.in-Ok.ensures.any paths
    (subst (λ strings. ListsLevels g.H.TreeHash.digest strings c.args.size c.args.root.now 8 paths) (sym same) lists))
