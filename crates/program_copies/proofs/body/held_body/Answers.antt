use Rattle.program_copies.proofs.body.held_body.Goals as goal

pub returns-in-Proof-clause-none : goal.returns-in-Proof-clause-none
returns-in-Proof-clause-none g c = rw c.in-Proof.is c.asked_proof.ensures.none
