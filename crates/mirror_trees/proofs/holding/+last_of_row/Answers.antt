use Rattle.std.proofs.Common.{◌≡◌, ℕ, List, length, arith, rules}
use Rattle.mirror_trees.specs.HeldEdge.{HasRow}
use Rattle.mirror_trees.proofs.EdgeSteps.{row_one, one_row, rows_join, parts_of_row, no_row, some_from, none_from}
use Rattle.mirror_trees.proofs.holding.+last_of_row.Goals as goal

pub returns-then-count-eq1-clause-found : goal.returns-then-count-eq1-clause-found
returns-then-count-eq1-clause-found g t c =
    let len : length c.args.hash.now ≡ 32 = search rules in
    row_one g.H.TreeHash.digest c.args.store.now c.args.count c.args.hash.now c.if-count-eq1.true len

pub returns-then-count-eq1-clause-only : goal.returns-then-count-eq1-clause-only
returns-then-count-eq1-clause-only g t c =
    λ other row. one_row g.H.TreeHash.digest c.args.store.now c.args.count c.args.hash.now other c.if-count-eq1.true row

pub returns-in_default-clause-none : goal.returns-in_default-clause-none
returns-in_default-clause-none g t c = λ last row.
    no_row g.H.TreeHash.digest g.met.H.TreeHash.digest_length c.args.store.now c.requires.clean c.args.count
    c.args.hash.now last (omega arith) c.in_default.ensures.none row

pub returns-in_default-last_of_row-clause-none : goal.returns-in_default-last_of_row-clause-none
returns-in_default-last_of_row-clause-none g t c = λ last row.
    let len : length c.in-Some.pair.0 ≡ 32 = search rules in
    let parts =
    parts_of_row g.H.TreeHash.digest g.met.H.TreeHash.digest_length c.args.store.now c.requires.clean
    c.args.count c.split-k.result c.args.hash.now c.in-Some.pair.0 c.in-Some.pair.1 last (omega arith)
    c.split-k.ensures.value len c.in-Some.ensures.some row in
    c.in_default-last_of_row.ensures.none parts.left_last parts.left

pub returns-clause-found : goal.returns-clause-found
returns-clause-found g t c =
    some_from _
    (λ last. HasRow g.H.TreeHash.digest c.args.store.now c.args.count c.args.hash.now last) c.last_of_row-2.result
    (λ last row. rows_join g.H.TreeHash.digest c.args.store.now
    c.args.count c.split-k.result c.args.hash.now c.in-Some.pair.0 c.in-Some.pair.1 _ last (omega arith)
    c.split-k.ensures.value c.in-Some.ensures.some c.in-Some-last_of_row.ensures.found row)
    c.last_of_row-2.ensures.found

pub returns-clause-only : goal.returns-clause-only
returns-clause-only g t c =
    let len : length c.in-Some.pair.0 ≡ 32 = search rules in
    some_from _
    (λ last. (other : List ℕ) → HasRow g.H.TreeHash.digest c.args.store.now c.args.count c.args.hash.now other →
    other ≡ last) c.last_of_row-2.result
    (λ last only other row. only other
    (parts_of_row g.H.TreeHash.digest g.met.H.TreeHash.digest_length c.args.store.now c.requires.clean c.args.count
    c.split-k.result c.args.hash.now c.in-Some.pair.0 c.in-Some.pair.1 other (omega arith)
    c.split-k.ensures.value len c.in-Some.ensures.some row).right)
    c.last_of_row-2.ensures.only

pub returns-clause-none : goal.returns-clause-none
returns-clause-none g t c =
    let len : length c.in-Some.pair.0 ≡ 32 = search rules in
    none_from _
    ((last : List ℕ) → HasRow g.H.TreeHash.digest c.args.store.now c.args.count c.args.hash.now last →
    ⊥) c.last_of_row-2.result
    (λ none last row. none last
    (parts_of_row g.H.TreeHash.digest g.met.H.TreeHash.digest_length c.args.store.now c.requires.clean
    c.args.count c.split-k.result c.args.hash.now c.in-Some.pair.0 c.in-Some.pair.1 last (omega arith)
    c.split-k.ensures.value len c.in-Some.ensures.some row).right)
    c.last_of_row-2.ensures.none
