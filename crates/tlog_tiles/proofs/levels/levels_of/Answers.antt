use Rattle.std.proofs.Common.{◌≡◌, map, sym, ◌∙◌}
use Rattle.std.proofs.lemmas.Simd.{map-map}
use Rattle.tlog_hash.specs.Tree.{leaf_hash}
use Rattle.tlog_tiles.specs.Layout.{full_row}
use Rattle.tlog_tiles.proofs.FullRows.{leaf_level, next_level, rows_fit}
use Rattle.tlog_tiles.proofs.levels.levels_of.Goals as goal

pub root_of-requires : goal.root_of-requires
root_of-requires g c =
    let digest = g.H.TreeHash.digest in
    let entries = map (λ e. e.now) c.args.entries.now in
    let leaves : c.in_ok-leaves.leaves.items ≡ full_row digest entries 0 =
    c.in_ok-leaves.ensures ∙ sym (map-map (leaf_hash digest) (λ e. e.now) c.args.entries.now) ∙
    sym (leaf_level digest entries) in
    let above : c.in_ok-above.above.items ≡ full_row digest entries 1 =
    next_level digest entries 0 c.deref.result.now c.in_ok-above.above.items (c.deref.ensures.value ∙ leaves)
    c.in_ok-above.ensures in
    rows_fit digest entries c.deref-2.result.now c.deref-3.result.now (c.deref-2.ensures.value ∙ leaves)
    (c.deref-3.ensures.value ∙ above)

pub returns-clause-root : goal.returns-clause-root
returns-clause-root g c =
    let digest = g.H.TreeHash.digest in
    let entries = map (λ e. e.now) c.args.entries.now in
    let leaves : c.in_ok-leaves.leaves.items ≡ full_row digest entries 0 =
    c.in_ok-leaves.ensures ∙ sym (map-map (leaf_hash digest) (λ e. e.now) c.args.entries.now) ∙
    sym (leaf_level digest entries) in
    let above : c.in_ok-above.above.items ≡ full_row digest entries 1 =
    next_level digest entries 0 c.deref.result.now c.in_ok-above.above.items (c.deref.ensures.value ∙ leaves)
    c.in_ok-above.ensures in
    c.in_ok-root.ensures entries (c.deref-2.ensures.value ∙ leaves) (c.deref-3.ensures.value ∙ above)

pub returns-clause-rows : goal.returns-clause-rows
returns-clause-rows g c =
    let digest = g.H.TreeHash.digest in
    let entries = map (λ e. e.now) c.args.entries.now in
    let leaves : c.in_ok-leaves.leaves.items ≡ full_row digest entries 0 =
    c.in_ok-leaves.ensures ∙ sym (map-map (leaf_hash digest) (λ e. e.now) c.args.entries.now) ∙
    sym (leaf_level digest entries) in
    let above : c.in_ok-above.above.items ≡ full_row digest entries 1 =
    next_level digest entries 0 c.deref.result.now c.in_ok-above.above.items (c.deref.ensures.value ∙ leaves)
    c.in_ok-above.ensures in
    c.in_ok-rows.ensures entries (c.deref-4.ensures.value ∙ leaves) above
