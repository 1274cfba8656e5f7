use Rattle.std.proofs.Common.{ℕ, List, map, ap, ◌∙◌}
use denote.Bor.{Bor}
use Rattle.tlog_tiles.specs.Bundle.{bundle_text}
use Rattle.mirror_trees.proofs.LeafRows.{at_some}
use Rattle.mirror_trees.specs.HeldLeaves.{HasLeaves}
use Rattle.mirror_trees.proofs.HeldLeaves.{lent_are}
use Rattle.mirror_trees.proofs.ServedParts.{lent_short}
use Rattle.mirror_trees.proofs.top_ranges.TopRanges.bundle.Goals as goal

pub write_bundle-requires-clause-fits : goal.write_bundle-requires-clause-fits
write_bundle-requires-clause-fits g c =
    let top = c.self.inside in
    let has : HasLeaves g.H.TreeHash.digest top.strings.now top.size top.root c.in-Some.leaves =
    at_some top.leaves c.in-Some.leaves _ c.in-Some.is c.self.invariant.1 in
    lent_short g.H.TreeHash.digest _ c.self.invariant.0 c.in-Some-part_at.entries.now c.args.index c.args.width
    (λ entries tree. lent_are g.H.TreeHash.digest top.strings.now top.size top.root c.in-Some.leaves has
    g.met.H.TreeHash.digest_length c.self.invariant.0.no_clash entries tree c.args.index c.args.width
    c.as_slice.result.now c.in-Some-part_at.entries.now c.as_slice.ensures.value c.in-Some-part_at.ensures.some)

pub returns-in-Some-clause-some : goal.returns-in-Some-clause-some
returns-in-Some-clause-some g c = rw (← c.self.view_is) (λ entries tree.
    let top = c.self.inside in
    let has : HasLeaves g.H.TreeHash.digest top.strings.now top.size top.root c.in-Some.leaves =
    at_some top.leaves c.in-Some.leaves _ c.in-Some.is c.self.invariant.1 in
    c.in_ok-write_bundle.ensures.text ∙ ap bundle_text
    (lent_are g.H.TreeHash.digest top.strings.now top.size top.root c.in-Some.leaves has
    g.met.H.TreeHash.digest_length c.self.invariant.0.no_clash entries tree c.args.index c.args.width
    c.as_slice.result.now c.in-Some-part_at.entries.now c.as_slice.ensures.value c.in-Some-part_at.ensures.some))

pub write_bundle-requires-2-clause-fits : goal.write_bundle-requires-2-clause-fits
write_bundle-requires-2-clause-fits g c =
    rw c.as_slice-2.ensures.value
    (lent_short g.H.TreeHash.digest _ c.self.invariant.0 c.in-Some-2.entries.items c.args.index c.args.width
    (at_some c.in_ok-entries.field-0 c.in-Some-2.entries _ c.in-Some-2.is c.in_ok-entries.ensures.some))

pub returns-clause-some : goal.returns-clause-some
returns-clause-some g c = rw (← c.self.view_is) (λ entries tree.
    c.in_ok-write_bundle-2.ensures.text ∙ ap bundle_text
    (ap (λ (es : List (Bor (List ℕ))). map (λ e. e.now) es) c.as_slice-2.ensures.value ∙
    at_some c.in_ok-entries.field-0 c.in-Some-2.entries _ c.in-Some-2.is c.in_ok-entries.ensures.some entries tree))
