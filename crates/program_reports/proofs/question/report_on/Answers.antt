use Rattle.program_reports.proofs.question.report_on.Goals as goal

pub returns-in-Proof-clause-tells : goal.returns-in-Proof-clause-tells
returns-in-Proof-clause-tells g c = rw c.in-Proof.is c.noted_proof.ensures.tells
