use Rattle.std.proofs.Common.{◌≡◌, ◌+◌, ◌++◌, ◌∷◌, ◌∙◌, [], List, None, Option, ℕ, ap, subst, sym}
use Rattle.log_reader.specs.Nodes.{AreBelow, hash_below, hash_on_top}
use Rattle.log_reader.proofs.EdgeHashes.{below_next, below_none, more_below, none_below}
use Rattle.log_reader.proofs.edge_root.hashes_below.Goals as goal

pub loop-level-init : goal.loop-level-init
loop-level-init g c =
    let digest = g.H.TreeHash.digest in
    let edge = c.args.edge.now in
    let items = c.in_ok-push.ensures.items ∙ ap (λ (l : List (Option (List ℕ))). l ++ None ∷ []) c.new-below.ensures.items in
    record {
      hash = sym (below_none digest edge);
      below = subst (AreBelow digest edge 1) (sym items)
          (more_below digest edge 0 [] None (none_below digest edge) (sym (below_none digest edge)));
    }

pub loop-level-preserved : goal.loop-level-preserved
loop-level-preserved g c =
    let digest = g.H.TreeHash.digest in
    let edge = c.args.edge.now in
    let level = c.loop-level.level in
    let next : c.in_ok-hash.hash ≡ hash_below digest edge (level + 1) =
    c.in_ok-hash.ensures ∙ ((λ i. hash_on_top digest (c.loop-level.invariant.hash i) (c.row.ensures i))
    ∙ sym (below_next digest edge level)) in
    record {
      hash = next;
      below = subst (AreBelow digest edge (level + 1 + 1)) (sym c.in_ok-push-2.ensures.items)
          (more_below digest edge (level + 1) c.loop-level.below.items c.in_ok-hash.hash c.loop-level.invariant.below next);
    }
