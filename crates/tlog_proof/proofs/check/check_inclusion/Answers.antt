use Rattle.std.proofs.Common.{false, rules, ◌≡◌, ◌+◌, ◌-◌, ◌/◌, ◌%◌, ◌<◌, [], get_or, drop, reverse, sym, refl, ap, ◌∙◌}
use Rattle.std.proofs.Common.{arith}
use Rattle.std.proofs.lemmas.List.{drop_more, drop_all}
use Rattle.tlog_hash.specs.Shape.{shape}
use Rattle.tlog_proof.specs.Inclusion.{hash_right, hash_left, incl_in, incl}
use Rattle.tlog_proof.proofs.ClimbLoop.{left_joins, right_joins, too_many, too_few, at_root, refused_inside}
use Rattle.tlog_proof.proofs.ClimbLoop.{answered_inside}
use Rattle.tlog_proof.proofs.check.check_inclusion.Goals as goal
use Rattle.tlog_proof.proofs.check.check_inclusion.Goals.{then-node-end, else-node-end}

pub loop-beside-init : goal.loop-beside-init
unfolding incl
loop-beside-init g c =
    let e : c.args.size - 1 + 1 ≡ c.args.size = omega arith in
    record {
      within =
          omega arith;
      same =
          ap (λ n. incl_in g.H.TreeHash.digest (shape n) c.args.index c.args.leaf.now (reverse c.args.path.now)) e;
    }

pub returns-then-end-eq0 : goal.returns-then-end-eq0
returns-then-end-eq0 g c =
    let d = g.H.TreeHash.digest in
    let p = get_or c.args.path.now c.loop-beside.beside-index [] in
    let rest = drop (c.loop-beside.beside-index + 1) c.args.path.now in
    refused_inside (c.args.index < c.args.size) _ c.args.root.now false refl
    (sym c.loop-beside.invariant.same ∙
    ap (λ xs. incl_in d (shape (c.loop-beside.end + 1)) c.loop-beside.node c.loop-beside.hash (reverse xs))
    (drop_more c.args.path.now c.loop-beside.beside-index [] (omega arith)) ∙
    too_many (hash_right d)
    (hash_left d) c.loop-beside.node c.loop-beside.end c.loop-beside.hash p rest c.if-end-eq0.true)

pub loop-beside-preserved : goal.loop-beside-preserved
loop-beside-preserved g c =
    let d = g.H.TreeHash.digest in
    let p = get_or c.args.path.now c.loop-beside.beside-index [] in
    let rest = drop (c.loop-beside.beside-index + 1) c.args.path.now in
    let front =
    ap (λ xs. incl_in d (shape (c.loop-beside.end + 1)) c.loop-beside.node c.loop-beside.hash (reverse xs))
    (sym (drop_more c.args.path.now c.loop-beside.beside-index [] (omega arith))) in
    elim c.if-node-end.branch [
      | then-node-end w ↦
          let u = w.to_partner-up in
          record {
            within = omega arith;
            same = (λ j. incl_in d (shape (w.end-is j / 2 + 1)) (w.node-is j / 2) (w.hash-is j) (reverse rest)) ∙
                left_joins (hash_right d)
                (hash_left d) c.loop-beside.node c.loop-beside.end u.result.0 u.result.1 c.loop-beside.hash
                p w.node-hash.result rest u.ensures.odd u.ensures.within (u.ensures.same d) w.node-hash.ensures
                ∙ front ∙ c.loop-beside.invariant.same;
          }
      | else-node-end w ↦
          let even : c.loop-beside.node % 2 ≡ 0 = omega (arith, w.if-node-end.false) in
          let below : c.loop-beside.node < c.loop-beside.end = omega (arith, w.if-node-end.false) in
          record {
            within = omega arith;
            same = (λ j. incl_in d (shape (w.end-is j / 2 + 1)) (w.node-is j / 2) (w.hash-is j) (reverse rest)) ∙
                right_joins (hash_right d)
                (hash_left d) c.loop-beside.node c.loop-beside.end c.loop-beside.hash p w.node-hash-else-node-end.result
                rest even below w.node-hash-else-node-end.ensures ∙ front ∙ c.loop-beside.invariant.same;
          }
    ]

pub returns-then-end-eq0-2 : goal.returns-then-end-eq0-2
returns-then-end-eq0-2 g c =
    let d = g.H.TreeHash.digest in
    answered_inside c.args.index c.args.size _ c.loop-beside.hash c.args.root.now c.eq.result (omega arith) c.eq.ensures
    (sym c.loop-beside.invariant.same ∙
    ap (λ xs. incl_in d (shape (c.loop-beside.end + 1)) c.loop-beside.node c.loop-beside.hash (reverse xs))
    (drop_all c.loop-beside.beside-index c.args.path.now (omega arith)) ∙
    at_root (hash_right d)
    (hash_left d) c.loop-beside.node c.loop-beside.end c.loop-beside.hash c.if-end-eq0-2.true)

pub returns-else-end-eq0-2 : goal.returns-else-end-eq0-2
returns-else-end-eq0-2 g c =
    let d = g.H.TreeHash.digest in
    refused_inside (c.args.index < c.args.size) _ c.args.root.now _ (search rules)
    (sym c.loop-beside.invariant.same ∙
    ap (λ xs. incl_in d (shape (c.loop-beside.end + 1)) c.loop-beside.node c.loop-beside.hash (reverse xs))
    (drop_all c.loop-beside.beside-index c.args.path.now (omega arith)) ∙
    too_few (hash_right d)
    (hash_left d) c.loop-beside.node c.loop-beside.end c.loop-beside.hash c.if-end-eq0-2.false)
