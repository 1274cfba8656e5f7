use Rattle.mirror_http.proofs.body.body_of.Goals as goal

pub returns-in-Proof-clause-found : goal.returns-in-Proof-clause-found
returns-in-Proof-clause-found g c = rw c.in-Proof.is c.proof_bytes.ensures.found

pub returns-in-Proof-clause-none : goal.returns-in-Proof-clause-none
returns-in-Proof-clause-none g c = rw c.in-Proof.is c.proof_bytes.ensures.none
