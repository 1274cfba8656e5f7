use Rattle.tlog_proof.proofs.proof.holds.Goals as goal

pub returns-in-Inclusion : goal.returns-in-Inclusion
returns-in-Inclusion g c = rw (c.in-Inclusion.is, ← c.as_slice.ensures) c.check_inclusion.ensures
