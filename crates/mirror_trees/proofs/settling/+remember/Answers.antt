use Rattle.std.proofs.Common.{◌≡◌, ◌⊎◌, ◌-◌, ◌≤◌, length, sym, subst, arith, rules}
use Rattle.mirror_model.specs.Complete.{IsBuilt}
use Rattle.mirror_trees.specs.HeldTrees.{HasMark}
use Rattle.mirror_trees.specs.Slices.{IsSliceOf}
use Rattle.mirror_trees.proofs.Descents.{no-pair, left-tree, right-tree}
use Rattle.mirror_trees.proofs.SliceSteps.{point_at, no_slice}
use Rattle.mirror_trees.proofs.Settles.{gains_nothing, one_parts, whole_done, gains_whole, gains_left, gains_right}
use Rattle.mirror_trees.proofs.Settles.{both_parts, added_done, added_gains}
use Rattle.mirror_trees.proofs.settling.+remember.Goals as goal

pub returns-then-size-eq0-clause-done : goal.returns-then-size-eq0-clause-done
returns-then-size-eq0-clause-done g t c = λ p m.
    absurd (no_slice g.H.TreeHash.digest c.args.store.now c.args.root.now p
    (subst (λ n. IsSliceOf g.H.TreeHash.digest c.args.store.now n c.args.root.now p) c.if-size-eq0.true m))

pub returns-then-size-eq0-clause-gains : goal.returns-then-size-eq0-clause-gains
returns-then-size-eq0-clause-gains g t c =
    gains_nothing g.H.TreeHash.digest c.args.store.now c.args.size c.args.root.now c.args.marks.now c.requires.settled

pub returns-then-contains-clause-done : goal.returns-then-contains-clause-done
returns-then-contains-clause-done g t c =
    c.requires.settled.closed c.args.size c.args.root.now (c.contains.ensures.0 c.if-contains.true)

pub returns-then-contains-clause-gains : goal.returns-then-contains-clause-gains
returns-then-contains-clause-gains g t c =
    gains_nothing g.H.TreeHash.digest c.args.store.now c.args.size c.args.root.now c.args.marks.now c.requires.settled

pub returns-then-size-eq1-clause-done : goal.returns-then-size-eq1-clause-done
returns-then-size-eq1-clause-done g t c =
    let d = g.H.TreeHash.digest in
    let held = c.args.store.now in
    let n = c.args.size in
    let root = c.args.root.now in
    let v = c.args.marks.now in
    added_done d held n root c.add.result v c.add.new.self (point_at n root) c.add.ensures.ok
    (whole_done d held n root (omega (arith, c.if-size-eq1.true)) c.requires.built v
    (λ p m. subst (λ k. p ≡ point_at k root ⊎ HasMark v p) (sym c.if-size-eq1.true)
    (one_parts d held root v p (subst (λ k. IsSliceOf d held k root p) c.if-size-eq1.true m))))

pub returns-then-size-eq1-clause-gains : goal.returns-then-size-eq1-clause-gains
returns-then-size-eq1-clause-gains g t c =
    let d = g.H.TreeHash.digest in
    let held = c.args.store.now in
    let n = c.args.size in
    let root = c.args.root.now in
    let v = c.args.marks.now in
    let f = gains_nothing d held n root v c.requires.settled in
    added_gains d held n root c.add.result v v c.add.new.self (point_at n root) c.add.ensures.ok c.add.ensures.err f
    (gains_whole d held n root (omega (arith, c.if-size-eq1.true)) c.requires.built v
    (λ p m. subst (λ k. p ≡ point_at k root ⊎ HasMark v p) (sym c.if-size-eq1.true)
    (one_parts d held root v p (subst (λ k. IsSliceOf d held k root p) c.if-size-eq1.true m))) v f)

pub unreachable-requires : goal.unreachable-requires
unreachable-requires g t c =
    let b = c.requires.built in
    no-pair g.H.TreeHash.digest c.args.store.now c.args.size c.args.root.now
    (omega (arith, c.if-size-eq0.false, c.if-size-eq1.false)) c.in_default.ensures.none b.entries b.is

pub remember-requires : goal.remember-requires
remember-requires g t c κs within =
    let d = g.H.TreeHash.digest in
    let two : 2 ≤ c.args.size = omega (arith, c.if-size-eq0.false, c.if-size-eq1.false) in
    let len : length c.in-Some.pair.0 ≡ 32 = search rules in
    let b = c.requires.built in
    let built : IsBuilt d c.args.store.now c.split-k.result c.in-Some.pair.0 =
    record {
      entries =
          _;
      is = left-tree d c.args.store.now g.met.H.TreeHash.digest_length c.requires.clean c.args.size c.split-k.result
          c.args.root.now c.in-Some.pair.0 c.in-Some.pair.1 two c.split-k.ensures.value len c.in-Some.ensures.some
          b.entries b.is;
    } in
    (search rules, (search rules, (c.requires.clean, (built, c.requires.settled))))

pub returns-in_err-remember-clause-gains : goal.returns-in_err-remember-clause-gains
returns-in_err-remember-clause-gains g t c =
    let two : 2 ≤ c.args.size = omega (arith, c.if-size-eq0.false, c.if-size-eq1.false) in
    let len : length c.in-Some.pair.0 ≡ 32 = search rules in
    gains_left g.H.TreeHash.digest c.args.store.now g.met.H.TreeHash.digest_length c.requires.clean
    c.args.size c.split-k.result c.args.root.now c.in-Some.pair.0 c.in-Some.pair.1 two c.split-k.ensures.value len
    c.in-Some.ensures.some c.requires.built c.args.marks.now c.remember.new.marks c.in_err-remember.ensures.gains

pub remember-requires-2 : goal.remember-requires-2
remember-requires-2 g t c κs within =
    let d = g.H.TreeHash.digest in
    let two : 2 ≤ c.args.size = omega (arith, c.if-size-eq0.false, c.if-size-eq1.false) in
    let len : length c.in-Some.pair.0 ≡ 32 = search rules in
    let b = c.requires.built in
    let built : IsBuilt d c.args.store.now (c.args.size - c.split-k.result) c.in-Some.pair.1 =
    record {
      entries =
          _;
      is = right-tree d c.args.store.now g.met.H.TreeHash.digest_length c.requires.clean c.args.size c.split-k.result
          c.args.root.now c.in-Some.pair.0 c.in-Some.pair.1 two c.split-k.ensures.value len c.in-Some.ensures.some
          b.entries b.is;
    } in
    (search rules, (search rules, (c.requires.clean, (built, c.in_ok-remember.ensures.gains.settled))))

pub returns-in_err-remember-2-clause-gains : goal.returns-in_err-remember-2-clause-gains
returns-in_err-remember-2-clause-gains g t c =
    let two : 2 ≤ c.args.size = omega (arith, c.if-size-eq0.false, c.if-size-eq1.false) in
    let len : length c.in-Some.pair.0 ≡ 32 = search rules in
    gains_right g.H.TreeHash.digest c.args.store.now g.met.H.TreeHash.digest_length c.requires.clean
    c.args.size c.split-k.result c.args.root.now c.in-Some.pair.0 c.in-Some.pair.1 two c.split-k.ensures.value len
    c.in-Some.ensures.some c.requires.built c.args.marks.now c.remember.new.marks c.remember-2.new.marks
    c.in_ok-remember.ensures.gains c.in_err-remember-2.ensures.gains

pub returns-clause-done : goal.returns-clause-done
returns-clause-done g t c =
    let d = g.H.TreeHash.digest in
    let held = c.args.store.now in
    let n = c.args.size in
    let root = c.args.root.now in
    let two : 2 ≤ c.args.size = omega (arith, c.if-size-eq0.false, c.if-size-eq1.false) in
    let len : length c.in-Some.pair.0 ≡ 32 = search rules in
    let w = c.remember-2.new.marks in
    added_done d held n root c.add-2.result w c.add-2.new.self (point_at n root) c.add-2.ensures.ok
    (whole_done d held n root (omega arith) c.requires.built w
    (both_parts d held g.met.H.TreeHash.digest_length c.requires.clean n c.split-k.result root c.in-Some.pair.0
    c.in-Some.pair.1 two c.split-k.ensures.value len c.in-Some.ensures.some c.requires.built c.remember.new.marks w
    c.in_ok-remember.ensures.done c.in_ok-remember-2.ensures.gains c.in_ok-remember-2.ensures.done))

pub returns-clause-gains : goal.returns-clause-gains
returns-clause-gains g t c =
    let d = g.H.TreeHash.digest in
    let held = c.args.store.now in
    let n = c.args.size in
    let root = c.args.root.now in
    let two : 2 ≤ c.args.size = omega (arith, c.if-size-eq0.false, c.if-size-eq1.false) in
    let len : length c.in-Some.pair.0 ≡ 32 = search rules in
    let w = c.remember-2.new.marks in
    let f = gains_right d held g.met.H.TreeHash.digest_length c.requires.clean n c.split-k.result root c.in-Some.pair.0
    c.in-Some.pair.1 two c.split-k.ensures.value len c.in-Some.ensures.some c.requires.built c.args.marks.now
    c.remember.new.marks w c.in_ok-remember.ensures.gains c.in_ok-remember-2.ensures.gains in
    added_gains d held n root c.add-2.result c.args.marks.now w c.add-2.new.self
    (point_at n root) c.add-2.ensures.ok c.add-2.ensures.err f
    (gains_whole d held n root (omega arith) c.requires.built w
    (both_parts d held g.met.H.TreeHash.digest_length c.requires.clean n c.split-k.result root c.in-Some.pair.0
    c.in-Some.pair.1 two c.split-k.ensures.value len c.in-Some.ensures.some c.requires.built c.remember.new.marks
    w c.in_ok-remember.ensures.done c.in_ok-remember-2.ensures.gains c.in_ok-remember-2.ensures.done)
    c.args.marks.now f)
