use Rattle.std.proofs.Common.{◌≡◌, length, refl, ap, ◌∙◌, arith, rules, eqb}
use Rattle.std.specs.Cmp.Lexicographic.{pointwise}
use Rattle.std.proofs.lemmas.Result.{IfOk-from_err}
use Rattle.mirror_trees.proofs.Builds.{records_none, records_one, tells_no_pair}
use Rattle.mirror_trees.proofs.KnownSteps.{known_decides, noted_known, both_built, tells_no_left, tells_no_right}
use Rattle.mirror_trees.proofs.built.+check_built.Goals as goal

pub returns-then-contains-clause-built : goal.returns-then-contains-clause-built
returns-then-contains-clause-built g t c =
    known_decides g.H.TreeHash.digest c.args.store.now c.args.known.now c.args.size c.args.root.now c.contains.result
    c.requires c.contains.ensures c.if-contains.true

pub returns-then-size-eq0-clause-built : goal.returns-then-size-eq0-clause-built
returns-then-size-eq0-clause-built g t c =
    records_none g.H.TreeHash.digest c.args.store.now c.args.size c.args.root.now c.eq.result c.if-size-eq0.true
    (c.eq.ensures ∙ ap (λ d. pointwise eqb d c.args.root.now) c.empty.ensures)

pub returns-then-size-eq1-clause-built : goal.returns-then-size-eq1-clause-built
returns-then-size-eq1-clause-built g t c =
    records_one g.H.TreeHash.digest c.args.store.now c.args.size c.args.root.now c.entry_of.result c.is_some.result
    c.if-size-eq1.true c.is_some.ensures c.entry_of.ensures.some c.entry_of.ensures.none

pub returns-in_default-clause-built : goal.returns-in_default-clause-built
returns-in_default-clause-built g t c =
    tells_no_pair g.H.TreeHash.digest c.args.store.now c.args.size c.args.root.now
    (omega arith) c.in_default.ensures.none

pub returns-then-not-first-clause-built : goal.returns-then-not-first-clause-built
returns-then-not-first-clause-built g t c =
    let len : length c.in-Some.pair.0 ≡ 32 = search rules in
    tells_no_left g.H.TreeHash.digest c.args.store.now g.met.H.TreeHash.digest_length c.in-Some.ensures.no_clash
    c.args.size c.split-k.result c.args.root.now c.in-Some.pair.0 c.in-Some.pair.1 (omega arith)
    c.split-k.ensures.value len c.in-Some.ensures.some c.in_ok-first.first c.if-not-first.true
    c.in_ok-first.ensures.built

pub returns-then-not-second-clause-built : goal.returns-then-not-second-clause-built
returns-then-not-second-clause-built g t c =
    let len : length c.in-Some.pair.0 ≡ 32 = search rules in
    tells_no_right g.H.TreeHash.digest c.args.store.now g.met.H.TreeHash.digest_length c.in-Some.ensures.no_clash
    c.args.size c.split-k.result c.args.root.now c.in-Some.pair.0 c.in-Some.pair.1 (omega arith)
    c.split-k.ensures.value len c.in-Some.ensures.some
    c.in_ok-first.first c.in_ok-second.second c.if-not-first.false c.in_ok-first.ensures.built c.if-not-second.true
    c.in_ok-second.ensures.built

pub returns-in_err-note_built-clause-known : goal.returns-in_err-note_built-clause-known
returns-in_err-note_built-clause-known g t c =
    let len : length c.in-Some.pair.0 ≡ 32 = search rules in
    noted_known g.H.TreeHash.digest c.args.store.now c.check_built-2.new.known c.note_built.new.built c.args.size
    c.args.root.now c.check_built-2.ensures.known
    (both_built g.H.TreeHash.digest c.args.store.now g.met.H.TreeHash.digest_length c.in-Some.ensures.no_clash
    c.args.size c.split-k.result c.args.root.now c.in-Some.pair.0 c.in-Some.pair.1 (omega arith)
    c.split-k.ensures.value len c.in-Some.ensures.some c.in_ok-first.first c.in_ok-second.second
    c.if-not-first.false c.in_ok-first.ensures.built c.if-not-second.false c.in_ok-second.ensures.built)
    c.note_built.ensures

pub returns-clause-built : goal.returns-clause-built
returns-clause-built g t c =
    let len : length c.in-Some.pair.0 ≡ 32 = search rules in
    let whole =
    both_built g.H.TreeHash.digest c.args.store.now g.met.H.TreeHash.digest_length c.in-Some.ensures.no_clash
    c.args.size c.split-k.result c.args.root.now c.in-Some.pair.0 c.in-Some.pair.1 (omega arith)
    c.split-k.ensures.value len c.in-Some.ensures.some c.in_ok-first.first c.in_ok-second.second
    c.if-not-first.false c.in_ok-first.ensures.built c.if-not-second.false c.in_ok-second.ensures.built in
    (λ _. whole, λ _. refl)

pub returns-clause-known : goal.returns-clause-known
returns-clause-known g t c =
    let len : length c.in-Some.pair.0 ≡ 32 = search rules in
    noted_known g.H.TreeHash.digest c.args.store.now c.check_built-2.new.known c.note_built.new.built c.args.size
    c.args.root.now c.check_built-2.ensures.known
    (both_built g.H.TreeHash.digest c.args.store.now g.met.H.TreeHash.digest_length c.in-Some.ensures.no_clash
    c.args.size c.split-k.result c.args.root.now c.in-Some.pair.0 c.in-Some.pair.1 (omega arith)
    c.split-k.ensures.value len c.in-Some.ensures.some c.in_ok-first.first c.in_ok-second.second
    c.if-not-first.false c.in_ok-first.ensures.built c.if-not-second.false c.in_ok-second.ensures.built)
    c.note_built.ensures

pub returns-in_err-first : goal.returns-in_err-first
returns-in_err-first g t c = record {
  built = IfOk-from_err _ _ c.from_residual.ensures.0;
  known = c.check_built.ensures.known;
  remembered = c.check_built.ensures.remembered;
}

pub returns-in_err-second : goal.returns-in_err-second
returns-in_err-second g t c = record {
  built = IfOk-from_err _ _ c.from_residual-in_err-second.ensures.0;
  known = c.check_built-2.ensures.known;
  remembered = c.check_built-2.ensures.remembered ∙ c.check_built.ensures.remembered;
}

pub returns-in_err-note_built-clause-built : goal.returns-in_err-note_built-clause-built
returns-in_err-note_built-clause-built g t c = IfOk-from_err _ _ c.from_residual-in_err-note_built.ensures.0
