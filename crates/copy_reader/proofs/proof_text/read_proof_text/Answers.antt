use Rattle.std.proofs.Common.{◌≤◌, inl, inr, refl, subst}
use Rattle.tlog_shape.specs.declared.TheConstants.{MAX_SIZE}
use Rattle.copy_reader.proofs.Damage.{too_large}
use Rattle.copy_reader.proofs.MadeProofs.{made_writable}
use Rattle.copy_reader.proofs.proof_text.read_proof_text.Goals as goal

pub returns-clause-honest : goal.returns-clause-honest
returns-clause-honest g c = λ small entries r files.
    let read = c.in_ok-proof.ensures.honest entries r files in
    let writable = made_writable g.H.TreeHash.digest entries c.args.ask c.in_ok-proof.proof
    (subst (λ n. n ≤ MAX_SIZE) r.size_is small) read.answer in
    absurd ((rw c.in-None.is at c.in_ok-text.ensures.none) writable)

pub returns-clause-damage : goal.returns-clause-damage
returns-clause-damage g c =
    let reader = c.args.reader.now in
    let large = too_large g.H.TreeHash.digest reader.edge.size reader.root c.args.ask c.in_ok-proof.proof
    c.in_ok-proof.ensures.asked c.in_ok-proof.ensures.holds (rw c.in-None.is at c.in_ok-text.ensures.none) in
    inl (refl, inr large)
