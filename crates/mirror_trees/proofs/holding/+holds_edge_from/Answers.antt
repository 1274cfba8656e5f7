use Rattle.std.proofs.Common.{arith, sym, ap, ◌∙◌, eqb}
use Rattle.std.specs.Cmp.Lexicographic.{pointwise}
use Rattle.mirror_trees.proofs.EdgeSteps.{edge_none, edge_skipped, edge_refused, edge_recorded}
use Rattle.mirror_trees.proofs.holding.+holds_edge_from.Goals as goal

pub returns-then-level-eq8 : goal.returns-then-level-eq8
returns-then-level-eq8 g t c =
    edge_none g.H.TreeHash.digest c.args.store.now c.args.size c.args.level c.args.root.now _ c.if-level-eq8.true
    (c.eq.ensures ∙ ap (λ d. pointwise eqb d c.args.root.now) c.empty.ensures)

pub returns-then-width-eq0 : goal.returns-then-width-eq0
returns-then-width-eq0 g t c =
    edge_skipped g.H.TreeHash.digest c.args.store.now
    c.args.size c.args.level c.args.root.now g.met.H.TreeHash.digest_length c.requires.clean (omega arith) _
    (sym c.edge_width-width.ensures ∙ c.if-width-eq0.true) c.holds_edge_from.ensures

pub returns-in_default : goal.returns-in_default
returns-in_default g t c =
    edge_refused g.H.TreeHash.digest c.args.store.now c.args.size c.args.level
    c.args.root.now g.met.H.TreeHash.digest_length c.requires.clean (omega arith) c.edge_width-width.result
    c.edge_width-width.ensures (omega arith) c.in_default.ensures.none

pub returns : goal.returns
returns g t c =
    edge_recorded g.H.TreeHash.digest c.args.store.now c.args.size c.args.level c.args.root.now
    g.met.H.TreeHash.digest_length c.requires.clean (omega arith) c.edge_width-width.result c.in-Some.value
    c.last_of_row.result _ c.edge_width-width.ensures (omega arith) c.is_some.ensures c.in-Some.ensures.found
    c.in-Some.ensures.only c.last_of_row.ensures.found c.last_of_row.ensures.none
