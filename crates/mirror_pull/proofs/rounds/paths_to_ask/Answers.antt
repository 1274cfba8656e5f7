use Rattle.std.proofs.Common.{refl, List, arith, All, ap, ◌∙◌, sym, subst, get_or}
use Rattle.std.proofs.Common.{length, ◌<◌}
use Rattle.std.proofs.lemmas.List.Elements.{All-push}
use Rattle.tlog_tiles.specs.declared.paths.Path.{Path}
use Rattle.tlog_tiles.specs.declared.paths.Path.TheVariants.{Checkpoint}
use Rattle.std.proofs.lemmas.List.{take_all}
use Rattle.mirror_pull.specs.Taking.{IsTakeable}
use Rattle.mirror_pull.proofs.Gains.{missing_takeable}
use Rattle.mirror_pull.proofs.rounds.paths_to_ask.Goals.{then-not-is_asked+in_ok-push, else-not-is_asked}
use Rattle.mirror_pull.specs.Replying.{AreUnasked, UnaskedNone}
use Rattle.mirror_pull.proofs.Replies.{unasked_in, unasked_out}
use Rattle.mirror_pull.proofs.rounds.paths_to_ask.Goals as goal

pub loop-path-preserved : goal.loop-path-preserved
loop-path-preserved g c =
    elim c.if-not-is_asked.branch [
      | then-not-is_asked+in_ok-push w ↦
          let m = rw c.in-Some.is at c.in_ok-missing.ensures in
          let at = c.deref-path-items.ensures.value in
          let lt : c.loop-path.path-index < length c.in-Some.missing.items = rw at at c.loop-path-test.true in
          let here =
          missing_takeable g.H.TreeHash.digest c.args.mirror.now.view c.args.size c.args.root.now
          c.in-Some.missing.items c.walk_law.ensures.kinds c.requires m.some c.loop-path.path-index lt in
          let item = subst (λ xs. IsTakeable (get_or xs c.loop-path.path-index Checkpoint)) (sym at) here in
          let grown = ap (λ v. v.items) w.paths-is ∙ w.in_ok-push.ensures.items in
          record {
            takeable =
                subst (All IsTakeable) (sym grown)
                (All-push IsTakeable c.loop-path.paths.items _ c.loop-path.invariant.takeable item);
            unasked = unasked_in c.args.asked.now.items c.deref-path-items.result.now c.loop-path.path-index
                c.loop-path.paths.items _ c.loop-path-test.true grown c.loop-path.invariant.unasked
                (λ has. let asked = w.if-not-is_asked.ensures.1 has in absurd cc);
          }
      | else-not-is_asked w ↦
          let kept = ap (λ v. v.items) w.paths-is in
          record {
            takeable = subst (All IsTakeable) (sym kept) c.loop-path.invariant.takeable;
            unasked = unasked_out c.args.asked.now.items c.deref-path-items.result.now c.loop-path.path-index
                c.loop-path.paths.items _ c.loop-path-test.true kept c.loop-path.invariant.unasked
                (w.if-not-is_asked.ensures.0 refl);
          }
    ]

pub loop-path-init : goal.loop-path-init
loop-path-init g c = record {
  takeable = rw c.new-paths.ensures.items (λ k d lt. absurd (omega (arith, lt)));
  unasked = rw c.new-paths.ensures.items UnaskedNone;
}

pub returns-clause-left : goal.returns-clause-left
returns-clause-left g c =
    λ head.
    let m = rw c.in-Some.is at c.in_ok-missing.ensures in
    let at = c.deref-path-items.ensures.value in
    record {
      missing = c.in-Some.missing.items;
      lists = m.some;
      unasked = subst (λ (l : List Path). AreUnasked c.args.asked.now.items l c.loop-path.paths.items)
          (take_all c.loop-path.path-index c.deref-path-items.result.now c.loop-path-test.false ∙ at)
          c.loop-path.invariant.unasked;
    }
