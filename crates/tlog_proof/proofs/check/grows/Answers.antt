use Rattle.std.proofs.Common.{◌≡◌, inl, inr, ◌+◌, ◌-◌, [], get_or, drop, Some, sym, refl, subst, arith, false}
use Rattle.std.specs.Prelude.{◌↔◌, IsTrue}
use Rattle.std.proofs.lemmas.List.{drop_more, take_rest, nil_from_length}
use Rattle.tlog_proof.specs.Steps.{HasBlocks}
use Rattle.tlog_proof.proofs.ClimbLoop.{climbs, empty_path, refused}
use Rattle.tlog_proof.proofs.check.grows.Goals as goal

pub returns-then-path-eq0 : goal.returns-then-path-eq0
returns-then-path-eq0 g c =
    refused _ (c.args.first_root.now, c.args.second_root.now) false refl
    (empty_path g.H.TreeHash.digest c.args.second c.args.first c.args.first_root.now c.args.path.now c.requires.some
    c.requires.more (nil_from_length c.args.path.now c.if-path-eq0.true))

pub returns-then-at-eq0 : goal.returns-then-at-eq0
returns-then-at-eq0 g c =
    let d = g.H.TreeHash.digest in
    let n : c.args.second - 1 + 1 ≡ c.args.second = omega arith in
    let m : c.args.first - 1 + 1 ≡ c.args.first = omega arith in
    let f = c.to_block-at.result.0 in
    let s = c.to_block-at.result.1 in
    let blocks : HasBlocks c.args.second c.args.first f s =
    (subst (λ x. HasBlocks x c.args.first f s) n
    (subst (λ x. HasBlocks (c.args.second - 1 + 1) x f s) m c.to_block-at.ensures.blocks)) in
    let is = climbs d c.args.second c.args.first f s c.to_block-at.ensures.even
    blocks c.requires.more c.args.first_root.now c.args.first_root.now c.args.path.now c.args.path.now
    (inl (c.if-at-eq0.true, refl, refl)) in
    subst (λ o. IsTrue c.leads_to.result ↔ (o ≡ Some (c.args.first_root.now, c.args.second_root.now)))
    (sym is) c.leads_to.ensures

pub returns-else-at-eq0 : goal.returns-else-at-eq0
returns-else-at-eq0 g c =
    let d = g.H.TreeHash.digest in
    let n : c.args.second - 1 + 1 ≡ c.args.second = omega arith in
    let m : c.args.first - 1 + 1 ≡ c.args.first = omega arith in
    let f = c.to_block-at.result.0 in
    let s = c.to_block-at.result.1 in
    let path = c.args.path.now in
    let rest = drop 1 path in
    let blocks : HasBlocks c.args.second c.args.first f s =
    (subst (λ x. HasBlocks x c.args.first f s) n
    (subst (λ x. HasBlocks (c.args.second - 1 + 1) x f s) m c.to_block-at.ensures.blocks)) in
    let is = climbs d c.args.second c.args.first f s c.to_block-at.ensures.even blocks c.requires.more
    c.args.first_root.now (get_or path 0 []) rest path (inr (omega arith, drop_more path 0 [] (omega arith))) in
    let recorded = rw (take_rest path 1) at c.leads_to-else-at-eq0.ensures in
    subst (λ o. IsTrue c.leads_to-else-at-eq0.result ↔ (o ≡ Some (c.args.first_root.now, c.args.second_root.now)))
    (sym is) recorded
