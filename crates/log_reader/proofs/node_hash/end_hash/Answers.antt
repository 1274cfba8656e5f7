use Rattle.std.proofs.Common.{◌≡◌, ℕ, ◌+◌, ◌*◌, ◌/◌, ◌^◌, ◌≤◌, List, length, subst, sym, ap, ◌∙◌, arith}
use Rattle.std.proofs.lemmas.Bool.{false≢true}
use Rattle.tlog_shape.specs.Edge.{edge_index_of, width_of}
use Rattle.log_reader.specs.EdgeRows.{RowIsTrue, row_at}
use Rattle.log_reader.specs.Nodes.{IsHashFrom, hash_below, hash_on_top}
use Rattle.log_reader.proofs.NodeHashes.{below_true, if_ok, last_level, row_count, row_from, true_row_at}
use Rattle.log_reader.proofs.node_hash.end_hash.Goals as goal

pub returns-in-Some : goal.returns-in-Some
returns-in-Some g c =
    let digest = g.H.TreeHash.digest in
    let hash = c.below.result in
    let level = c.args.level in
    let first = c.args.first in
    let edge = c.args.edge.now in
    let from = row_from c.row.result.now c.in-Some.row.now first c.in-Some.ensures.lookup.0.2 in
    let row_is : c.row.result.now ≡ row_at edge level = c.row.ensures ∙ ap (λ e. row_at e level) c.rows.ensures in
    let below_is : hash ≡ hash_below digest edge level = c.below.ensures in
    if_ok (λ found. found ≡ hash_on_top digest hash c.in-Some.row.now)
    (λ found. (entries : List (List ℕ)) → edge.size ≡ length entries →
    ((l : ℕ) → l ≤ 7 → RowIsTrue digest edge entries l) → first ≤ width_of (length entries) level →
    IsHashFrom digest entries ((256 * edge_index_of (length entries) level + first) * 256 ^ level) found)
    c.on_top.result
    (λ found is entries size rows fits.
    let row = row_is ∙ true_row_at digest entries edge size rows level c.requires in
    let below = subst (IsHashFrom digest entries (length entries / 256 ^ level * 256 ^ level)) (sym below_is)
    (below_true digest entries edge size rows level (omega arith)) in
    let start = (256 * edge_index_of (length entries) level + first) * 256 ^ level in
    subst (IsHashFrom digest entries start) (sym (is ∙ ap (hash_on_top digest hash) from))
    (last_level digest entries level first hash c.row.result.now fits row below))
    c.on_top.ensures

pub returns-in-None : goal.returns-in-None
returns-in-None g c = λ entries size rows fits.
    let digest = g.H.TreeHash.digest in
    let level = c.args.level in
    let n = length entries in
    let edge = c.args.edge.now in
    let row_is : c.row.result.now ≡ row_at edge level = c.row.ensures ∙ ap (λ e. row_at e level) c.rows.ensures in
    let long : length c.row.result.now ≡ width_of n level =
    ap length (row_is ∙ true_row_at digest entries edge size rows level c.requires) ∙ row_count digest entries level (256 * edge_index_of n level) (width_of n level) in
    absurd (false≢true (c.in-None.ensures.lookup.1 (omega (arith, long, fits), omega arith)))
