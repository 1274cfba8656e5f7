use Rattle.std.proofs.Common.{◌≡◌, ◌≤◌, length, arith, rules}
use Rattle.std.proofs.lemmas.Result.{IfOk-from_err}
use Rattle.mirror_model.specs.Complete.{IsBuilt}
use Rattle.mirror_trees.proofs.KnownSteps.{known_built, noted_built, parts_built, leaf_built}
use Rattle.mirror_trees.proofs.counting.+count_lost.Goals as goal

pub returns-then-contains-clause-whole : goal.returns-then-contains-clause-whole
returns-then-contains-clause-whole g t c = λ _.
    known_built g.H.TreeHash.digest c.args.store.now c.args.known.now c.args.size c.args.root.now c.requires.known
    (c.contains.ensures c.if-contains.true)

pub returns-then-size-eq1-clause-whole : goal.returns-then-size-eq1-clause-whole
returns-then-size-eq1-clause-whole g t c = λ _.
    leaf_built g.H.TreeHash.digest c.args.store.now c.args.size c.args.root.now c.in-Some-entry_of.field-0.now
    c.if-size-eq1.true c.in-Some-entry_of.ensures.some

pub returns-in_err-note_built-clause-found : goal.returns-in_err-note_built-clause-found
returns-in_err-note_built-clause-found g t c =
    let two : 2 ≤ c.args.size = omega (arith, c.requires.some, c.if-size-eq1.false) in
    let len_l : length c.in-Some-pair_of.pair.0 ≡ 32 = search rules in
    let whole : IsBuilt g.H.TreeHash.digest c.args.store.now c.args.size c.args.root.now =
    parts_built g.H.TreeHash.digest c.args.store.now c.args.size c.split-k.result c.args.root.now
    c.in-Some-pair_of.pair.0 c.in-Some-pair_of.pair.1 two c.split-k.ensures.value c.in-Some-pair_of.ensures.some
    (c.in_ok-first.ensures.whole (c.count_of-count.ensures.first c.if-count-eq0.true))
    (c.in_ok-second.ensures.whole (c.count_of-count.ensures.second c.if-count-eq0.true)) in
    noted_built g.H.TreeHash.digest c.args.store.now c.count_lost-2.new.found c.note_built.new.built c.args.size
    c.args.root.now c.count_lost-2.ensures.found whole c.note_built.ensures

pub returns-then-count-eq0-clause-whole : goal.returns-then-count-eq0-clause-whole
returns-then-count-eq0-clause-whole g t c =
    let two : 2 ≤ c.args.size = omega (arith, c.requires.some, c.if-size-eq1.false) in
    let len_l : length c.in-Some-pair_of.pair.0 ≡ 32 = search rules in
    λ _. parts_built g.H.TreeHash.digest c.args.store.now c.args.size c.split-k.result c.args.root.now
    c.in-Some-pair_of.pair.0 c.in-Some-pair_of.pair.1 two c.split-k.ensures.value c.in-Some-pair_of.ensures.some
    (c.in_ok-first.ensures.whole (c.count_of-count.ensures.first c.if-count-eq0.true))
    (c.in_ok-second.ensures.whole (c.count_of-count.ensures.second c.if-count-eq0.true))

pub returns-then-count-eq0-clause-found : goal.returns-then-count-eq0-clause-found
returns-then-count-eq0-clause-found g t c =
    let two : 2 ≤ c.args.size = omega (arith, c.requires.some, c.if-size-eq1.false) in
    let len_l : length c.in-Some-pair_of.pair.0 ≡ 32 = search rules in
    let whole : IsBuilt g.H.TreeHash.digest c.args.store.now c.args.size c.args.root.now =
    parts_built g.H.TreeHash.digest c.args.store.now c.args.size c.split-k.result c.args.root.now
    c.in-Some-pair_of.pair.0 c.in-Some-pair_of.pair.1 two c.split-k.ensures.value c.in-Some-pair_of.ensures.some
    (c.in_ok-first.ensures.whole (c.count_of-count.ensures.first c.if-count-eq0.true))
    (c.in_ok-second.ensures.whole (c.count_of-count.ensures.second c.if-count-eq0.true)) in
    noted_built g.H.TreeHash.digest c.args.store.now c.count_lost-2.new.found c.note_built.new.built c.args.size
    c.args.root.now c.count_lost-2.ensures.found whole c.note_built.ensures

pub returns-in_err-first : goal.returns-in_err-first
returns-in_err-first g t c = record {
  whole = IfOk-from_err _ _ c.from_residual.ensures.0;
  found = c.count_lost.ensures.found;
}

pub returns-in_err-second : goal.returns-in_err-second
returns-in_err-second g t c = record {
  whole = IfOk-from_err _ _ c.from_residual-in_err-second.ensures.0;
  found = c.count_lost-2.ensures.found;
}

pub returns-in_err-note_built-clause-whole : goal.returns-in_err-note_built-clause-whole
returns-in_err-note_built-clause-whole g t c = IfOk-from_err _ _ c.from_residual-in_err-note_built.ensures.0

pub returns-in_err-keep : goal.returns-in_err-keep
returns-in_err-keep g t c = record {
  whole = IfOk-from_err _ _ c.from_residual-in_err-keep.ensures.0;
  found = c.count_lost-2.ensures.found;
}
