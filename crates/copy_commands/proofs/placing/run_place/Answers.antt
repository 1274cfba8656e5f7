-- Each arm gives the answer of its command.
use Rattle.copy_commands.proofs.placing.run_place.Goals as goal

pub returns-in-Follow-clause-does : goal.returns-in-Follow-clause-does
returns-in-Follow-clause-does g c = rw c.in-Follow.is c.run.ensures.does

pub returns-in-Audit-clause-does : goal.returns-in-Audit-clause-does
returns-in-Audit-clause-does g c = rw c.in-Audit.is c.run-in-Audit.ensures.does
