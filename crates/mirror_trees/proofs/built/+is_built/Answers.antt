use Rattle.std.proofs.Common.{◌≡◌, length, ap, ◌∙◌, arith, rules, eqb}
use Rattle.std.specs.Cmp.Lexicographic.{pointwise}
use Rattle.mirror_trees.proofs.Builds.{records_none, records_one, tells_no_pair}
use Rattle.mirror_trees.proofs.KnownSteps.{known_decides, tells_no_left, tells_right, records_equal}
use Rattle.mirror_trees.proofs.built.+is_built.Goals as goal

pub returns-then-size-eq0 : goal.returns-then-size-eq0
returns-then-size-eq0 g t c =
    records_none g.H.TreeHash.digest c.args.store.now c.args.size c.args.root.now c.eq.result c.if-size-eq0.true
    (c.eq.ensures ∙ ap (λ d. pointwise eqb d c.args.root.now) c.empty.ensures)

pub returns-then-size-eq1 : goal.returns-then-size-eq1
returns-then-size-eq1 g t c =
    records_one g.H.TreeHash.digest c.args.store.now c.args.size c.args.root.now c.entry_of.result c.is_some.result
    c.if-size-eq1.true c.is_some.ensures c.entry_of.ensures.some c.entry_of.ensures.none

pub returns-in_default : goal.returns-in_default
returns-in_default g t c =
    tells_no_pair g.H.TreeHash.digest c.args.store.now c.args.size c.args.root.now
    (omega arith) c.in_default.ensures.none

pub returns-then-contains : goal.returns-then-contains
returns-then-contains g t c =
    known_decides g.H.TreeHash.digest c.args.store.now c.args.known.now c.args.size c.args.root.now c.contains.result
    c.requires c.contains.ensures c.if-contains.true

pub returns-then-not-is_built : goal.returns-then-not-is_built
returns-then-not-is_built g t c =
    let len : length c.in-Some.pair.0 ≡ 32 = search rules in
    tells_no_left g.H.TreeHash.digest c.args.store.now g.met.H.TreeHash.digest_length c.in-Some.ensures.no_clash
    c.args.size c.split-k.result c.args.root.now c.in-Some.pair.0 c.in-Some.pair.1 (omega arith)
    c.split-k.ensures.value len c.in-Some.ensures.some c.is_built.result c.if-not-is_built.true c.is_built.ensures

pub returns-then-eq : goal.returns-then-eq
returns-then-eq g t c =
    let len : length c.in-Some.pair.0 ≡ 32 = search rules in
    records_equal g.H.TreeHash.digest c.args.store.now g.met.H.TreeHash.digest_length c.in-Some.ensures.no_clash
    c.args.size c.split-k.result c.args.root.now c.in-Some.pair.0 c.in-Some.pair.1 (omega arith)
    c.split-k.ensures.value len c.in-Some.ensures.some c.is_built.result c.eq-then-size-k.result
    c.if-not-is_built.false c.is_built.ensures c.if-size-k.true c.eq-then-size-k.ensures c.if-eq.true

pub returns : goal.returns
returns g t c =
    let len : length c.in-Some.pair.0 ≡ 32 = search rules in
    tells_right g.H.TreeHash.digest c.args.store.now g.met.H.TreeHash.digest_length c.in-Some.ensures.no_clash
    c.args.size c.split-k.result c.args.root.now c.in-Some.pair.0 c.in-Some.pair.1 (omega arith)
    c.split-k.ensures.value len c.in-Some.ensures.some c.is_built.result c.is_built-2.result c.if-not-is_built.false
    c.is_built.ensures c.is_built-2.ensures
