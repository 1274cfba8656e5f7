use Rattle.std.proofs.Common.{◌+◌, ◌-◌, ◌/◌, ◌∙◌, [], ap, arith, drop, length, refl, take}
use Rattle.std.proofs.lemmas.List.{get_or_read_under}
use Rattle.tlog_hash.specs.Tree.{fold_of}
use Rattle.log_reader.proofs.FullNodes.{node_at, place_within}
use Rattle.log_reader.proofs.full_row.FullRow.node.Goals as goal

pub index-requires : goal.index-requires
index-requires g c =
    let fits = place_within g.H.TreeHash.digest c.args.first c.args.count c.requires.power c.requires.aligned c.requires.fits in
    omega (arith, fits, c.self.invariant.long)

pub returns : goal.returns
returns g c =
    let digest = g.H.TreeHash.digest in
    let first = c.args.first in
    let count = c.args.count in
    let hashes = c.self.inside.hashes.items in
    let place = 512 - 512 / count + first / count in
    let fits = place_within digest first count c.requires.power c.requires.aligned c.requires.fits in
    get_or_read_under hashes place (length hashes) c.index.result.now [] c.index.ensures (omega (arith, fits, c.self.invariant.long)) refl
    ∙ (node_at digest first count c.requires.power c.requires.aligned c.requires.fits hashes c.self.invariant
    ∙ ap (λ row. fold_of digest (take count (drop first row))) c.self.view_is)
