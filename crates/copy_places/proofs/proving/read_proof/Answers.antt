use Rattle.std.proofs.Common.{subst}
use Rattle.log_reader.specs.Proving.{IsConsistencyTo}
use Rattle.copy_places.proofs.Checked.{checked_agree}
use Rattle.copy_places.proofs.proving.read_proof.Goals as goal

pub returns-in-Ok-clause-agrees : goal.returns-in-Ok-clause-agrees
returns-in-Ok-clause-agrees g c = λ none some less.
    let small = c.args.smaller.now in
    let large = c.args.larger.now in
    checked_agree g.H.TreeHash.digest small large c.requires.less c.in-Ok.proof
    (subst (λ n. IsConsistencyTo small.size.0 n large.root c.in-Ok.proof) c.requires.leads.is_edge.size_is c.in-Ok.ensures.asked)
    c.in-Ok.ensures.holds c.differing.ensures.hashes c.differing.result c.differing.ensures.none none
