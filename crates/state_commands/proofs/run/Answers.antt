-- Each arm gives the answer of its command.
use Rattle.state_commands.proofs.run.Goals as goal

pub returns-in-Build-clause-does : goal.returns-in-Build-clause-does
returns-in-Build-clause-does g c = rw c.in-Build.is c.run.ensures.does

pub returns-in-Take-clause-does : goal.returns-in-Take-clause-does
returns-in-Take-clause-does g c = rw c.in-Take.is c.run-in-Take.ensures.does

pub returns-in-Merge-clause-does : goal.returns-in-Merge-clause-does
returns-in-Merge-clause-does g c = rw c.in-Merge.is c.run-in-Merge.ensures.does

pub returns-in-Pull-clause-does : goal.returns-in-Pull-clause-does
returns-in-Pull-clause-does g c = rw c.in-Pull.is c.run-in-Pull.ensures.does

pub returns-in-Export-clause-does : goal.returns-in-Export-clause-does
returns-in-Export-clause-does g c = rw c.in-Export.is c.run-in-Export.ensures.does

pub returns-in-Update-clause-does : goal.returns-in-Update-clause-does
returns-in-Update-clause-does g c = rw c.in-Update.is c.run_with_update.ensures.does

pub returns-in-Notes-clause-does : goal.returns-in-Notes-clause-does
returns-in-Notes-clause-does g c = rw c.in-Notes.is c.run-in-Notes.ensures.does
