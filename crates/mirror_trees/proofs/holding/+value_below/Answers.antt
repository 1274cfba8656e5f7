use Rattle.std.proofs.Common.{◌≡◌, ℕ, List, ◌+◌, length, arith, rules, sym, ◌∙◌, subst}
use Rattle.mirror_trees.specs.HeldEdge.{LeadsUp, HasRow}
use Rattle.mirror_trees.proofs.EdgeSteps.{top_value, value_top, skip_level, skipped, add_level, level_of, leads_on}
use Rattle.mirror_trees.proofs.EdgeSteps.{some_from, none_from}
use Rattle.mirror_trees.proofs.holding.+value_below.Goals as goal

pub returns-then-level-eq8-clause-found : goal.returns-then-level-eq8-clause-found
returns-then-level-eq8-clause-found g t c =
    let len : length c.args.root.now ≡ 32 = search rules in
    top_value g.H.TreeHash.digest c.args.store.now c.args.size c.args.level c.args.root.now c.if-level-eq8.true len

pub returns-then-level-eq8-clause-only : goal.returns-then-level-eq8-clause-only
returns-then-level-eq8-clause-only g t c =
    λ other up. value_top g.H.TreeHash.digest c.args.store.now c.args.size c.args.level c.args.root.now other
    c.if-level-eq8.true up

pub returns-in_default-clause-none : goal.returns-in_default-clause-none
returns-in_default-clause-none g t c = λ other up.
    let above =
    leads_on g.H.TreeHash.digest c.args.store.now c.args.size c.args.level c.args.root.now
    g.met.H.TreeHash.digest_length c.requires.clean (omega arith) other up in
    c.in_default.ensures.none above.0 above.1

pub returns-then-width-eq0-clause-found : goal.returns-then-width-eq0-clause-found
returns-then-width-eq0-clause-found g t c =
    skip_level g.H.TreeHash.digest c.args.store.now c.args.size c.args.level c.args.root.now
    (omega arith) c.in-Some.value (sym c.edge_width-width.ensures ∙ c.if-width-eq0.true) c.in-Some.ensures.found

pub returns-then-width-eq0-clause-only : goal.returns-then-width-eq0-clause-only
returns-then-width-eq0-clause-only g t c = λ other up.
    c.in-Some.ensures.only other
    (skipped g.H.TreeHash.digest c.args.store.now
    c.args.size c.args.level c.args.root.now g.met.H.TreeHash.digest_length c.requires.clean (omega arith) other
    (sym c.edge_width-width.ensures ∙ c.if-width-eq0.true) up)

pub returns-clause-found : goal.returns-clause-found
returns-clause-found g t c =
    some_from _
    (λ value. LeadsUp g.H.TreeHash.digest c.args.store.now c.args.size c.args.level c.args.root.now value)
    c.last_of_row.result
    (λ value row. add_level g.H.TreeHash.digest c.args.store.now c.args.size c.args.level c.args.root.now
    (omega arith) c.edge_width-width.result c.in-Some.value value c.edge_width-width.ensures
    (omega arith) c.in-Some.ensures.found row)
    c.last_of_row.ensures.found

pub returns-clause-only : goal.returns-clause-only
returns-clause-only g t c =
    some_from _
    (λ value. (other : List ℕ) →
    LeadsUp g.H.TreeHash.digest c.args.store.now c.args.size c.args.level c.args.root.now other →
    other ≡ value) c.last_of_row.result
    (λ value only other up.
    let level =
    level_of g.H.TreeHash.digest c.args.store.now c.args.size c.args.level
    c.args.root.now g.met.H.TreeHash.digest_length c.requires.clean (omega arith) c.edge_width-width.result other
    c.edge_width-width.ensures (omega arith) up in
    only other
    (subst (λ v. HasRow g.H.TreeHash.digest c.args.store.now (c.edge_width-width.result + 1) v other)
    (c.in-Some.ensures.only level.above level.up) level.row))
    c.last_of_row.ensures.only

pub returns-clause-none : goal.returns-clause-none
returns-clause-none g t c =
    none_from _
    ((value : List ℕ) →
    LeadsUp g.H.TreeHash.digest c.args.store.now c.args.size c.args.level c.args.root.now value →
    ⊥) c.last_of_row.result
    (λ none other up.
    let level =
    level_of g.H.TreeHash.digest c.args.store.now c.args.size c.args.level
    c.args.root.now g.met.H.TreeHash.digest_length c.requires.clean (omega arith) c.edge_width-width.result other
    c.edge_width-width.ensures (omega arith) up in
    none other
    (subst (λ v. HasRow g.H.TreeHash.digest c.args.store.now (c.edge_width-width.result + 1) v other)
    (c.in-Some.ensures.only level.above level.up) level.row))
    c.last_of_row.ensures.none
