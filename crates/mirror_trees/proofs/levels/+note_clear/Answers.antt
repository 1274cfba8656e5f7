use Rattle.std.proofs.Common.{◌≡◌, ◌≤◌, length, arith, rules}
use Rattle.std.proofs.lemmas.Result.{IfOk-from_err}
use Rattle.mirror_trees.specs.Levels.{IsClear}
use Rattle.mirror_trees.proofs.KnownSteps.{known_built}
use Rattle.mirror_trees.proofs.LevelSteps.{never_both, clear_built, clear_few, clear_leaf, clear_node, clear_parts, noted_clear}
use Rattle.mirror_trees.proofs.levels.+note_clear.Goals as goal

pub returns-then-contains-clause-whole : goal.returns-then-contains-clause-whole
returns-then-contains-clause-whole g t c = λ _.
    clear_built c.args.level g.H.TreeHash.digest c.args.store.now g.met.H.TreeHash.digest_length c.requires.clean
    c.args.size c.args.root.now
    (known_built g.H.TreeHash.digest c.args.store.now c.args.known.now c.args.size c.args.root.now c.requires.known
    (c.contains.ensures c.if-contains.true))

pub returns-then-is_below-clause-whole : goal.returns-then-is_below-clause-whole
returns-then-is_below-clause-whole g t c = λ _.
    let few = c.is_below.ensures.0 c.if-is_below.true in
    clear_few c.args.level g.H.TreeHash.digest c.args.store.now c.args.size c.args.root.now few.0 few.1

pub returns-then-size-eq1-clause-whole : goal.returns-then-size-eq1-clause-whole
returns-then-size-eq1-clause-whole g t c = λ _.
    clear_leaf c.args.level g.H.TreeHash.digest c.args.store.now c.args.size c.args.root.now c.in-Some.field-0.now
    c.if-size-eq1.true c.in-Some.ensures.some

pub returns-in_default-pair_of-clause-whole : goal.returns-in_default-pair_of-clause-whole
returns-in_default-pair_of-clause-whole g t c = λ h.
    let two : 2 ≤ c.args.size = omega (arith, c.requires.some, c.if-size-eq1.false) in
    clear_node c.args.level g.H.TreeHash.digest c.args.store.now c.args.size c.args.root.now two
    c.in_default-pair_of.ensures.none (λ of. never_both c.is_of_level.result h (c.is_of_level.ensures.1 of))

pub returns-in_err-note_built-clause-clear : goal.returns-in_err-note_built-clause-clear
returns-in_err-note_built-clause-clear g t c =
    let two : 2 ≤ c.args.size = omega (arith, c.requires.some, c.if-size-eq1.false) in
    let len_l : length c.in-Some-pair_of.pair.0 ≡ 32 = search rules in
    let len_r : length c.in-Some-pair_of.pair.1 ≡ 32 = search rules in
    let whole : IsClear g.H.TreeHash.digest c.args.store.now c.args.level c.args.size c.args.root.now =
    clear_parts c.args.level g.H.TreeHash.digest c.args.store.now c.requires.clean c.args.size c.split-k.result
    c.args.root.now c.in-Some-pair_of.pair.0 c.in-Some-pair_of.pair.1 two c.split-k.ensures.value len_l len_r
    c.in-Some-pair_of.ensures.some (c.in_ok-first.ensures.whole c.if-first.true)
    (c.in_ok-second.ensures.whole c.if-second.true) in
    noted_clear c.args.level g.H.TreeHash.digest c.args.store.now c.note_clear-2.new.clear c.note_built.new.built
    c.args.size c.args.root.now c.note_clear-2.ensures.clear whole c.note_built.ensures

pub returns-then-second-clause-whole : goal.returns-then-second-clause-whole
returns-then-second-clause-whole g t c = λ _.
    let two : 2 ≤ c.args.size = omega (arith, c.requires.some, c.if-size-eq1.false) in
    let len_l : length c.in-Some-pair_of.pair.0 ≡ 32 = search rules in
    let len_r : length c.in-Some-pair_of.pair.1 ≡ 32 = search rules in
    clear_parts c.args.level g.H.TreeHash.digest c.args.store.now c.requires.clean c.args.size c.split-k.result
    c.args.root.now c.in-Some-pair_of.pair.0 c.in-Some-pair_of.pair.1 two c.split-k.ensures.value len_l len_r
    c.in-Some-pair_of.ensures.some (c.in_ok-first.ensures.whole c.if-first.true)
    (c.in_ok-second.ensures.whole c.if-second.true)

pub returns-then-second-clause-clear : goal.returns-then-second-clause-clear
returns-then-second-clause-clear g t c =
    let two : 2 ≤ c.args.size = omega (arith, c.requires.some, c.if-size-eq1.false) in
    let len_l : length c.in-Some-pair_of.pair.0 ≡ 32 = search rules in
    let len_r : length c.in-Some-pair_of.pair.1 ≡ 32 = search rules in
    let whole : IsClear g.H.TreeHash.digest c.args.store.now c.args.level c.args.size c.args.root.now =
    clear_parts c.args.level g.H.TreeHash.digest c.args.store.now c.requires.clean c.args.size c.split-k.result
    c.args.root.now c.in-Some-pair_of.pair.0 c.in-Some-pair_of.pair.1 two c.split-k.ensures.value len_l len_r
    c.in-Some-pair_of.ensures.some (c.in_ok-first.ensures.whole c.if-first.true)
    (c.in_ok-second.ensures.whole c.if-second.true) in
    noted_clear c.args.level g.H.TreeHash.digest c.args.store.now c.note_clear-2.new.clear c.note_built.new.built
    c.args.size c.args.root.now c.note_clear-2.ensures.clear whole c.note_built.ensures

pub returns-in_err-first : goal.returns-in_err-first
returns-in_err-first g t c = record {
  whole = IfOk-from_err _ _ c.from_residual.ensures.0;
  clear = c.note_clear.ensures.clear;
}

pub returns-in_err-second : goal.returns-in_err-second
returns-in_err-second g t c = record {
  whole = IfOk-from_err _ _ c.from_residual-in_err-second.ensures.0;
  clear = c.note_clear-2.ensures.clear;
}

pub returns-in_err-note_built-2 : goal.returns-in_err-note_built-2
returns-in_err-note_built-2 g t c = record {
  whole = IfOk-from_err _ _ c.from_residual-in_err-note_built-2.ensures.0;
  clear = c.note_clear-2.ensures.clear;
}

pub returns-in_err-note_built-clause-whole : goal.returns-in_err-note_built-clause-whole
returns-in_err-note_built-clause-whole g t c = IfOk-from_err _ _ c.from_residual-in_err-note_built.ensures.0
