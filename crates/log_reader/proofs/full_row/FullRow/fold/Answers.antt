use Rattle.std.proofs.Common.{[], ◌∙◌, ap, arith, length, length-take, refl, take}
use Rattle.std.proofs.lemmas.List.{get_or_read_under, take_all}
use Rattle.tlog_hash.specs.Tree.{fold_of}
use Rattle.log_reader.proofs.FullNodes.{node_at}
use Rattle.log_reader.proofs.full_row.FullRow.fold.Goals as goal

pub index-requires : goal.index-requires
index-requires g c = omega (arith, c.self.invariant.long)

pub returns : goal.returns
returns g c =
    let digest = g.H.TreeHash.digest in
    let hashes = c.self.inside.hashes.items in
    get_or_read_under hashes 510 (length hashes) c.index.result.now [] c.index.ensures (omega (arith, c.self.invariant.long)) refl
    ∙ (node_at digest 0 256 (record { exponent = 8; is = refl }) refl (omega arith) hashes c.self.invariant
    ∙ (ap (fold_of digest) (take_all 256 (take 256 hashes) (omega (arith, length-take 256 hashes)))
    ∙ ap (fold_of digest) c.self.view_is))
