use Rattle.std.proofs.Common.{◌≡◌, ◌≤◌, length, sym, subst, arith, rules}
use Rattle.std.specs.Prelude.{◌↔◌}
use Rattle.std.proofs.lemmas.Result.{IfOk-from_err}
use Rattle.mirror_model.specs.Complete.{IsBuilt}
use Rattle.mirror_model.specs.Front.{IsPathOf}
use Rattle.mirror_trees.specs.Lost.{IsLost}
use Rattle.mirror_trees.proofs.KnownSteps.{known_built, noted_built, parts_built, leaf_built}
use Rattle.mirror_trees.proofs.Losses.{built_not_lost, leaf_held, leaf_lost, pair_lost, pair_held, adds_one, adds_none}
use Rattle.mirror_trees.proofs.Losses.{adds_both}
use Rattle.mirror_trees.proofs.missing.+push_lost.Goals as goal

pub returns-then-contains-clause-adds : goal.returns-then-contains-clause-adds
returns-then-contains-clause-adds g t c = λ path.
    adds_none (IsLost g.H.TreeHash.digest c.args.store.now c.args.total c.args.start c.args.size c.args.root.now path) _
    (λ m. built_not_lost g.H.TreeHash.digest c.args.store.now g.met.H.TreeHash.digest_length
    c.requires.clean c.args.total c.args.start c.args.size c.args.root.now path
    (known_built g.H.TreeHash.digest c.args.store.now c.args.known.now c.args.size c.args.root.now c.requires.known
    (c.contains.ensures c.if-contains.true)) m)

pub returns-then-contains-clause-whole : goal.returns-then-contains-clause-whole
returns-then-contains-clause-whole g t c = λ _.
    known_built g.H.TreeHash.digest c.args.store.now c.args.known.now c.args.size c.args.root.now c.requires.known
    (c.contains.ensures c.if-contains.true)

pub returns-then-is_noted-clause-adds : goal.returns-then-is_noted-clause-adds
returns-then-is_noted-clause-adds g t c = λ path.
    adds_none (IsLost g.H.TreeHash.digest c.args.store.now c.args.total c.args.start c.args.size c.args.root.now path) _
    (λ m. built_not_lost g.H.TreeHash.digest c.args.store.now g.met.H.TreeHash.digest_length
    c.requires.clean c.args.total c.args.start c.args.size c.args.root.now path
    (c.requires.found.built c.args.size c.args.root.now (c.is_noted.ensures c.if-is_noted.true)) m)

pub returns-then-size-eq1-clause-adds : goal.returns-then-size-eq1-clause-adds
returns-then-size-eq1-clause-adds g t c = λ path.
    adds_none (IsLost g.H.TreeHash.digest c.args.store.now c.args.total c.args.start c.args.size c.args.root.now path) _
    (λ m. leaf_held g.H.TreeHash.digest
    c.args.store.now c.args.total c.args.start c.args.root.now path c.in-Some.field-0.now c.in-Some.ensures.some
    (subst (λ n. IsLost g.H.TreeHash.digest c.args.store.now c.args.total c.args.start n c.args.root.now path)
    c.if-size-eq1.true m))

pub returns-then-size-eq1-clause-whole : goal.returns-then-size-eq1-clause-whole
returns-then-size-eq1-clause-whole g t c = λ _.
    leaf_built g.H.TreeHash.digest c.args.store.now c.args.size c.args.root.now c.in-Some.field-0.now
    c.if-size-eq1.true c.in-Some.ensures.some

pub returns-in_default-clause-adds : goal.returns-in_default-clause-adds
returns-in_default-clause-adds g t c = λ path.
    adds_one c.args.total c.args.start c.args.size c.path_of.result path _ _ _ c.path_of.ensures
    (subst (λ n. IsLost g.H.TreeHash.digest c.args.store.now c.args.total c.args.start n c.args.root.now path
    ↔ IsPathOf c.args.total c.args.start n path) (sym c.if-size-eq1.true)
    (leaf_lost g.H.TreeHash.digest c.args.store.now c.args.total c.args.start c.args.root.now path
    c.in_default.ensures.none)) (c.in_ok-push_path.ensures path)

pub returns-in_default-pair_of-clause-adds : goal.returns-in_default-pair_of-clause-adds
returns-in_default-pair_of-clause-adds g t c = λ path.
    let two : 2 ≤ c.args.size = omega (arith, c.requires.some, c.if-size-eq1.false) in
    adds_one c.args.total c.args.start c.args.size c.path_of-in_default-pair_of.result path _ _ _
    c.path_of-in_default-pair_of.ensures
    (pair_lost g.H.TreeHash.digest c.args.store.now c.args.total c.args.start c.args.root.now path c.args.size two
    c.in_default-pair_of.ensures.none) (c.in_ok-push_path-2.ensures path)

pub returns-then-not-first-clause-adds : goal.returns-then-not-first-clause-adds
returns-then-not-first-clause-adds g t c =
    let two : 2 ≤ c.args.size = omega (arith, c.requires.some, c.if-size-eq1.false) in
    let len_l : length c.in-Some-pair_of.pair.0 ≡ 32 = search rules in
    let len_r : length c.in-Some-pair_of.pair.1 ≡ 32 = search rules in
    λ path. adds_both _ _ _ _ _ _
    (pair_held g.H.TreeHash.digest c.args.store.now c.args.total c.args.start c.args.root.now path c.args.size two
    c.requires.clean c.split-k.result c.in-Some-pair_of.pair.0 c.in-Some-pair_of.pair.1 c.split-k.ensures.value
    len_l len_r c.in-Some-pair_of.ensures.some) (c.in_ok-first.ensures.adds path) (c.in_ok-second.ensures.adds path)

pub returns-then-not-second-clause-adds : goal.returns-then-not-second-clause-adds
returns-then-not-second-clause-adds g t c =
    let two : 2 ≤ c.args.size = omega (arith, c.requires.some, c.if-size-eq1.false) in
    let len_l : length c.in-Some-pair_of.pair.0 ≡ 32 = search rules in
    let len_r : length c.in-Some-pair_of.pair.1 ≡ 32 = search rules in
    λ path. adds_both _ _ _ _ _ _
    (pair_held g.H.TreeHash.digest c.args.store.now c.args.total c.args.start c.args.root.now path c.args.size two
    c.requires.clean c.split-k.result c.in-Some-pair_of.pair.0 c.in-Some-pair_of.pair.1 c.split-k.ensures.value
    len_l len_r c.in-Some-pair_of.ensures.some) (c.in_ok-first.ensures.adds path) (c.in_ok-second.ensures.adds path)

pub returns-in_err-note_built-clause-found : goal.returns-in_err-note_built-clause-found
returns-in_err-note_built-clause-found g t c =
    let two : 2 ≤ c.args.size = omega (arith, c.requires.some, c.if-size-eq1.false) in
    let len_l : length c.in-Some-pair_of.pair.0 ≡ 32 = search rules in
    let whole : IsBuilt g.H.TreeHash.digest c.args.store.now c.args.size c.args.root.now =
    parts_built g.H.TreeHash.digest c.args.store.now c.args.size c.split-k.result c.args.root.now
    c.in-Some-pair_of.pair.0 c.in-Some-pair_of.pair.1 two c.split-k.ensures.value c.in-Some-pair_of.ensures.some
    (c.in_ok-first.ensures.whole c.if-not-first.false) (c.in_ok-second.ensures.whole c.if-not-second.false) in
    noted_built g.H.TreeHash.digest c.args.store.now c.push_lost-2.new.found c.note_built.new.built c.args.size
    c.args.root.now c.push_lost-2.ensures.found whole c.note_built.ensures

pub returns-clause-adds : goal.returns-clause-adds
returns-clause-adds g t c =
    let two : 2 ≤ c.args.size = omega (arith, c.requires.some, c.if-size-eq1.false) in
    let len_l : length c.in-Some-pair_of.pair.0 ≡ 32 = search rules in
    let len_r : length c.in-Some-pair_of.pair.1 ≡ 32 = search rules in
    λ path. adds_both _ _ _ _ _ _
    (pair_held g.H.TreeHash.digest c.args.store.now c.args.total c.args.start c.args.root.now path c.args.size two
    c.requires.clean c.split-k.result c.in-Some-pair_of.pair.0 c.in-Some-pair_of.pair.1 c.split-k.ensures.value
    len_l len_r c.in-Some-pair_of.ensures.some) (c.in_ok-first.ensures.adds path) (c.in_ok-second.ensures.adds path)

pub returns-clause-whole : goal.returns-clause-whole
returns-clause-whole g t c =
    let two : 2 ≤ c.args.size = omega (arith, c.requires.some, c.if-size-eq1.false) in
    let len_l : length c.in-Some-pair_of.pair.0 ≡ 32 = search rules in
    let whole : IsBuilt g.H.TreeHash.digest c.args.store.now c.args.size c.args.root.now =
    parts_built g.H.TreeHash.digest c.args.store.now c.args.size c.split-k.result c.args.root.now
    c.in-Some-pair_of.pair.0 c.in-Some-pair_of.pair.1 two c.split-k.ensures.value c.in-Some-pair_of.ensures.some
    (c.in_ok-first.ensures.whole c.if-not-first.false) (c.in_ok-second.ensures.whole c.if-not-second.false) in
    λ _. whole

pub returns-clause-found : goal.returns-clause-found
returns-clause-found g t c =
    let two : 2 ≤ c.args.size = omega (arith, c.requires.some, c.if-size-eq1.false) in
    let len_l : length c.in-Some-pair_of.pair.0 ≡ 32 = search rules in
    let whole : IsBuilt g.H.TreeHash.digest c.args.store.now c.args.size c.args.root.now =
    parts_built g.H.TreeHash.digest c.args.store.now c.args.size c.split-k.result c.args.root.now
    c.in-Some-pair_of.pair.0 c.in-Some-pair_of.pair.1 two c.split-k.ensures.value c.in-Some-pair_of.ensures.some
    (c.in_ok-first.ensures.whole c.if-not-first.false) (c.in_ok-second.ensures.whole c.if-not-second.false) in
    noted_built g.H.TreeHash.digest c.args.store.now c.push_lost-2.new.found c.note_built.new.built c.args.size
    c.args.root.now c.push_lost-2.ensures.found whole c.note_built.ensures

pub returns-in_err-push_path : goal.returns-in_err-push_path
returns-in_err-push_path g t c = record {
  adds = IfOk-from_err _ _ c.from_residual.ensures.0;
  whole = IfOk-from_err _ _ c.from_residual.ensures.0;
  found = c.requires.found;
}

pub returns-in_err-push_path-2 : goal.returns-in_err-push_path-2
returns-in_err-push_path-2 g t c = record {
  adds = IfOk-from_err _ _ c.from_residual-in_err-push_path-2.ensures.0;
  whole = IfOk-from_err _ _ c.from_residual-in_err-push_path-2.ensures.0;
  found = c.requires.found;
}

pub returns-in_err-first : goal.returns-in_err-first
returns-in_err-first g t c = record {
  adds = IfOk-from_err _ _ c.from_residual-in_err-first.ensures.0;
  whole = IfOk-from_err _ _ c.from_residual-in_err-first.ensures.0;
  found = c.push_lost.ensures.found;
}

pub returns-in_err-second : goal.returns-in_err-second
returns-in_err-second g t c = record {
  adds = IfOk-from_err _ _ c.from_residual-in_err-second.ensures.0;
  whole = IfOk-from_err _ _ c.from_residual-in_err-second.ensures.0;
  found = c.push_lost-2.ensures.found;
}

pub returns-in_err-note_built-clause-adds : goal.returns-in_err-note_built-clause-adds
returns-in_err-note_built-clause-adds g t c = IfOk-from_err _ _ c.from_residual-in_err-note_built.ensures.0

pub returns-in_err-note_built-clause-whole : goal.returns-in_err-note_built-clause-whole
returns-in_err-note_built-clause-whole g t c = IfOk-from_err _ _ c.from_residual-in_err-note_built.ensures.0
