use Rattle.std.proofs.Common.{◌∙◌, map}
use Rattle.mirror_trees.proofs.LeafRows.{at_some, ok_some_from, ok_none_from, bundle_is, bundle_none}
use Rattle.mirror_trees.proofs.bundle.entries_at.Goals as goal

pub returns-clause-some : goal.returns-clause-some
returns-clause-some g c =
    let row_is = at_some c.in_ok-row.field-0 c.in-Some.row _ c.in-Some.is c.in_ok-row.ensures.some in
    let within = at_some c.in_ok-row.field-0 c.in-Some.row _ c.in-Some.is c.in_ok-row.ensures.within in
    ok_some_from c.entries_of.result _ _
    (λ lent h es tree. bundle_is g.H.TreeHash.digest c.args.store.now c.requires.clean c.args.size c.args.root.now
    es c.as_slice.result.now (map (λ e. e.now) lent.items) c.args.index c.args.width tree within.within
    (c.as_slice.ensures.value ∙ row_is es tree) h) c.entries_of.ensures.some

pub returns-clause-none : goal.returns-clause-none
returns-clause-none g c =
    let row_is = at_some c.in_ok-row.field-0 c.in-Some.row _ c.in-Some.is c.in_ok-row.ensures.some in
    ok_none_from c.entries_of.result _ _
    (λ h es tree w. bundle_none g.H.TreeHash.digest c.args.store.now c.args.size c.args.root.now es
    c.as_slice.result.now c.args.index c.args.width tree w.within (c.as_slice.ensures.value ∙ row_is es tree) h)
    c.entries_of.ensures.none
