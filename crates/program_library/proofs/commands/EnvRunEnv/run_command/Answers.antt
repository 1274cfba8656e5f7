-- Each arm gives the answer of its group.
use Rattle.copy_commands.specs.Commands.{ExecutesCopy}
use Rattle.copy_commands.specs.PlaceCommands.{ExecutesPlace}
use Rattle.copy_commands.specs.StateCommands.{ExecutesReport}
use Rattle.state_commands.specs.Commands.{ExecutesState}
use Rattle.program_library.specs.declared.fault.RunFault.TheVariants.{Place, Report, State}
use Rattle.program_library.proofs.Orders.{by_group, ends_group}
use Rattle.program_library.proofs.commands.EnvRunEnv.run_command.Goals as goal

pub returns-in-State-clause-does : goal.returns-in-State-clause-does
returns-in-State-clause-does g c =
    rw c.in-State.is (by_group State (ExecutesState _ _ _ _ _ _) _ _ c.of_run.ensures c.run-answer.ensures.does)

pub returns-in-State-clause-ends : goal.returns-in-State-clause-ends
returns-in-State-clause-ends g c =
    ends_group State _ (λ fault late. late) _ _ _ _ c.of_run.ensures c.run-answer.ensures.ends

pub returns-in-Report-clause-does : goal.returns-in-Report-clause-does
returns-in-Report-clause-does g c =
    rw c.in-Report.is
    (by_group Report (ExecutesReport _ _ _ _ _) _ _ c.of_run-in-Report.ensures c.run_report-answer.ensures.does)

pub returns-in-Report-clause-ends : goal.returns-in-Report-clause-ends
returns-in-Report-clause-ends g c =
    ends_group Report _ (λ fault late. late) _ _ _ _ c.of_run-in-Report.ensures c.run_report-answer.ensures.ends

pub returns-in-Copy-clause-does : goal.returns-in-Copy-clause-does
returns-in-Copy-clause-does g c =
    rw c.in-Copy.is (by_group Report (ExecutesCopy _ _ _ _ _) _ _ c.of_run-in-Copy.ensures c.run_copy-answer.ensures.does)

pub returns-in-Copy-clause-ends : goal.returns-in-Copy-clause-ends
returns-in-Copy-clause-ends g c =
    ends_group Report _ (λ fault late. late) _ _ _ _ c.of_run-in-Copy.ensures c.run_copy-answer.ensures.ends

pub returns-in-Place-clause-does : goal.returns-in-Place-clause-does
returns-in-Place-clause-does g c =
    rw c.in-Place.is
    (by_group Place (ExecutesPlace _ _ _ _ _ _) _ _ c.of_run-in-Place.ensures c.run_place-answer.ensures.does)

pub returns-in-Place-clause-ends : goal.returns-in-Place-clause-ends
returns-in-Place-clause-ends g c =
    ends_group Place _ (λ fault late. late) _ _ _ _ c.of_run-in-Place.ensures c.run_place-answer.ensures.ends
