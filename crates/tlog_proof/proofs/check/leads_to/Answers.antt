use Rattle.std.proofs.Common.{◌≡◌, ℕ, ◌+◌, ◌/◌, ◌%◌, ◌<◌, List, [], get_or, drop, reverse, sym, refl, ap, ◌∙◌, arith}
use Rattle.std.proofs.Common.{false}
use Rattle.std.proofs.lemmas.List.{drop_more, drop_all}
use Rattle.tlog_proof.specs.Climb.{climb}
use Rattle.tlog_hash.specs.Shape.{shape}
use Rattle.tlog_proof.specs.Consistency.{both_right, both_left}
use Rattle.tlog_proof.proofs.ClimbLoop.{left_joins, right_joins, too_many, too_few, at_root, refused, answered}
use Rattle.tlog_proof.proofs.ClimbLoop.{first_wrong}
use Rattle.tlog_proof.proofs.check.leads_to.Goals as goal
use Rattle.tlog_proof.proofs.check.leads_to.Goals.{then-node-end, else-node-end}

pub loop-beside-preserved : goal.loop-beside-preserved
loop-beside-preserved g c =
    let d = g.H.TreeHash.digest in
    let p = get_or c.args.path.now c.loop-beside.beside-index [] in
    let rest = drop (c.loop-beside.beside-index + 1) c.args.path.now in
    let front =
    ap (λ xs. climb (both_right d) (both_left d) (shape (c.loop-beside.end + 1)) c.loop-beside.node
    (c.loop-beside.first_hash, c.loop-beside.second_hash) (reverse xs))
    (sym (drop_more c.args.path.now c.loop-beside.beside-index [] (omega arith))) in
    elim c.if-node-end.branch [
      | then-node-end w ↦
          let u = w.to_partner-up in
          let new : List ℕ × List ℕ = (w.node-first_hash.result, w.node-second_hash.result) in
          record {
            within = omega arith;
            same = (λ j. climb (both_right d) (both_left d) (shape (w.end-is j / 2 + 1)) (w.node-is j / 2)
                (w.first_hash-is j, w.second_hash-is j) (reverse rest)) ∙
                left_joins (both_right d) (both_left d) c.loop-beside.node c.loop-beside.end u.result.0 u.result.1
                (c.loop-beside.first_hash, c.loop-beside.second_hash) p new rest u.ensures.odd u.ensures.within
                (u.ensures.both d) (λ j. (w.node-first_hash.ensures j, w.node-second_hash.ensures j)) ∙ front ∙
                c.loop-beside.invariant.same;
          }
      | else-node-end w ↦
          let even : c.loop-beside.node % 2 ≡ 0 = omega (arith, w.if-node-end.false) in
          let below : c.loop-beside.node < c.loop-beside.end = omega (arith, w.if-node-end.false) in
          let new : List ℕ × List ℕ = (c.loop-beside.first_hash, w.node-second_hash-else-node-end.result) in
          record {
            within = omega arith;
            same = (λ j. climb (both_right d) (both_left d) (shape (w.end-is j / 2 + 1)) (w.node-is j / 2)
                (w.first_hash-is j, w.second_hash-is j) (reverse rest)) ∙
                right_joins (both_right d) (both_left d) c.loop-beside.node c.loop-beside.end
                (c.loop-beside.first_hash, c.loop-beside.second_hash) p new rest even below
                (λ j. (c.loop-beside.first_hash, w.node-second_hash-else-node-end.ensures j)) ∙ front ∙
                c.loop-beside.invariant.same;
          }
    ]

pub returns-then-end-eq0 : goal.returns-then-end-eq0
returns-then-end-eq0 g c =
    let d = g.H.TreeHash.digest in
    let p = get_or c.args.path.now c.loop-beside.beside-index [] in
    let rest = drop (c.loop-beside.beside-index + 1) c.args.path.now in
    refused _ (c.args.first_root.now, c.args.second_root.now) false refl
    (sym c.loop-beside.invariant.same ∙
    ap (λ xs. climb (both_right d) (both_left d) (shape (c.loop-beside.end + 1)) c.loop-beside.node
    (c.loop-beside.first_hash, c.loop-beside.second_hash) (reverse xs))
    (drop_more c.args.path.now c.loop-beside.beside-index [] (omega arith)) ∙
    too_many (both_right d) (both_left d) c.loop-beside.node c.loop-beside.end
    (c.loop-beside.first_hash, c.loop-beside.second_hash) p rest c.if-end-eq0.true)

pub returns-then-end-ne0 : goal.returns-then-end-ne0
returns-then-end-ne0 g c =
    let d = g.H.TreeHash.digest in
    refused _ (c.args.first_root.now, c.args.second_root.now) false refl
    (sym c.loop-beside.invariant.same ∙
    ap (λ xs. climb (both_right d) (both_left d) (shape (c.loop-beside.end + 1)) c.loop-beside.node
    (c.loop-beside.first_hash, c.loop-beside.second_hash) (reverse xs))
    (drop_all c.loop-beside.beside-index c.args.path.now (omega arith)) ∙
    too_few (both_right d) (both_left d) c.loop-beside.node c.loop-beside.end
    (c.loop-beside.first_hash, c.loop-beside.second_hash) c.if-end-ne0.true)

pub returns-then-eq : goal.returns-then-eq
returns-then-eq g c =
    let d = g.H.TreeHash.digest in
    let zero_is : c.loop-beside.end ≡ 0 = omega (arith, c.if-end-ne0.false) in
    answered _ (c.loop-beside.first_hash, c.loop-beside.second_hash)
    (c.args.first_root.now, c.args.second_root.now) c.eq.result _ c.eq.ensures c.if-eq.true c.eq-then-eq.ensures
    (sym c.loop-beside.invariant.same ∙
    ap (λ xs. climb (both_right d) (both_left d) (shape (c.loop-beside.end + 1)) c.loop-beside.node
    (c.loop-beside.first_hash, c.loop-beside.second_hash) (reverse xs))
    (drop_all c.loop-beside.beside-index c.args.path.now (omega arith)) ∙
    at_root (both_right d) (both_left d) c.loop-beside.node c.loop-beside.end
    (c.loop-beside.first_hash, c.loop-beside.second_hash) zero_is)

pub returns : goal.returns
returns g c =
    let d = g.H.TreeHash.digest in
    let zero_is : c.loop-beside.end ≡ 0 = omega (arith, c.if-end-ne0.false) in
    first_wrong _ (c.loop-beside.first_hash, c.loop-beside.second_hash)
    (c.args.first_root.now, c.args.second_root.now) c.eq.result false c.eq.ensures c.if-eq.false refl
    (sym c.loop-beside.invariant.same ∙
    ap (λ xs. climb (both_right d) (both_left d) (shape (c.loop-beside.end + 1)) c.loop-beside.node
    (c.loop-beside.first_hash, c.loop-beside.second_hash) (reverse xs))
    (drop_all c.loop-beside.beside-index c.args.path.now (omega arith)) ∙
    at_root (both_right d) (both_left d) c.loop-beside.node c.loop-beside.end
    (c.loop-beside.first_hash, c.loop-beside.second_hash) zero_is)
