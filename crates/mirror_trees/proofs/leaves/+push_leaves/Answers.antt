use Rattle.std.proofs.Common.{◌≡◌, [], None, length, refl, ap, ◌∙◌, arith, rules, eqb}
use Rattle.std.specs.Cmp.Lexicographic.{pointwise}
use Rattle.std.proofs.lemmas.Slice.Eq.{slice_eq-Decides}
use Rattle.std.proofs.lemmas.Bool.Decides.{Decides-eqb}
use Rattle.mirror_trees.proofs.Builds.{records_none, records_one, tells_no_pair}
use Rattle.mirror_trees.proofs.RowSteps.{ok_from}
use Rattle.mirror_trees.proofs.LeafSteps.{not_from, adds_none, adds_one, adds_both, lost_left, lost_right}
use Rattle.mirror_trees.proofs.leaves.+push_leaves.Goals as goal

pub returns-then-size-eq0-clause-held : goal.returns-then-size-eq0-clause-held
returns-then-size-eq0-clause-held g t c = λ held.
    adds_none g.H.TreeHash.digest c.args.store.now c.args.size c.args.root.now c.args.leaves.now c.if-size-eq0.true
    ((slice_eq-Decides Decides-eqb (g.H.TreeHash.digest []) c.args.root.now c.eq.result
    (c.eq.ensures ∙ ap (λ d. pointwise eqb d c.args.root.now) c.empty.ensures)).0 held)

pub returns-then-size-eq0-clause-lost : goal.returns-then-size-eq0-clause-lost
returns-then-size-eq0-clause-lost g t c =
    not_from c.eq.result _ (records_none g.H.TreeHash.digest c.args.store.now c.args.size c.args.root.now c.eq.result
    c.if-size-eq0.true (c.eq.ensures ∙ ap (λ d. pointwise eqb d c.args.root.now) c.empty.ensures))

pub returns-in_default-clause-lost : goal.returns-in_default-clause-lost
returns-in_default-clause-lost g t c =
    not_from _ _ (records_one g.H.TreeHash.digest c.args.store.now c.args.size c.args.root.now None _
    c.if-size-eq1.true refl tt c.in_default.ensures.none)

pub returns-then-size-eq1-clause-held : goal.returns-then-size-eq1-clause-held
returns-then-size-eq1-clause-held g t c = λ _.
    adds_one g.H.TreeHash.digest c.args.store.now c.args.size c.args.root.now c.args.leaves.now _ c.in-Some.entry
    c.if-size-eq1.true c.in-Some.ensures.some c.in_ok-push.ensures.items c.in_ok-push-2.ensures.items

pub returns-in_default-pair_of-clause-lost : goal.returns-in_default-pair_of-clause-lost
returns-in_default-pair_of-clause-lost g t c =
    not_from _ _ (tells_no_pair g.H.TreeHash.digest c.args.store.now c.args.size c.args.root.now
    (omega arith) c.in_default-pair_of.ensures.none)

pub returns-then-not-branch-clause-lost : goal.returns-then-not-branch-clause-lost
returns-then-not-branch-clause-lost g t c = λ _.
    let len : length c.in-Some-pair_of.pair.0 ≡ 32 = search rules in
    lost_left g.H.TreeHash.digest c.args.store.now c.args.size c.split-k.result c.args.root.now c.in-Some-pair_of.pair.0
    c.in-Some-pair_of.pair.1 (omega arith) c.split-k.ensures.value c.in-Some-pair_of.ensures.some
    g.met.H.TreeHash.digest_length c.in-Some-pair_of.ensures.no_clash len
    (c.in_ok-push_leaves.ensures.lost c.if-not-branch.true)

pub returns-clause-held : goal.returns-clause-held
returns-clause-held g t c =
    ok_from c.push_leaves-2.result _ _ (λ held right is. adds_both g.H.TreeHash.digest c.args.store.now c.args.size
    c.split-k.result c.args.root.now c.in-Some-pair_of.pair.0 c.in-Some-pair_of.pair.1 (omega arith)
    c.split-k.ensures.value c.in-Some-pair_of.ensures.some c.args.leaves.now c.push_leaves.new.leaves
    c.push_leaves-2.new.leaves (c.in_ok-push_leaves.ensures.held c.if-not-branch.false) (right is))
    c.push_leaves-2.ensures.held

pub returns-clause-lost : goal.returns-clause-lost
returns-clause-lost g t c =
    let len : length c.in-Some-pair_of.pair.0 ≡ 32 = search rules in
    ok_from c.push_leaves-2.result _ _ (λ held right is. lost_right g.H.TreeHash.digest c.args.store.now c.args.size
    c.split-k.result c.args.root.now c.in-Some-pair_of.pair.0 c.in-Some-pair_of.pair.1 (omega arith)
    c.split-k.ensures.value c.in-Some-pair_of.ensures.some g.met.H.TreeHash.digest_length
    c.in-Some-pair_of.ensures.no_clash len (right is))
    c.push_leaves-2.ensures.lost
