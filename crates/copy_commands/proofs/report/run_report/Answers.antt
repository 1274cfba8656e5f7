-- Each arm gives the answer of its command.
use Rattle.std.proofs.Common.{refl}
use Rattle.program_io.proofs.Performing.{performs}
use Rattle.copy_commands.proofs.report.run_report.Goals as goal

pub returns-in-Root-clause-does : goal.returns-in-Root-clause-does
returns-in-Root-clause-does g c = rw c.in-Root.is c.run.ensures.does

pub returns-in-Check-clause-does : goal.returns-in-Check-clause-does
returns-in-Check-clause-does g c = rw c.in-Check.is c.run-in-Check.ensures.does

pub returns-in-Status-clause-does : goal.returns-in-Status-clause-does
returns-in-Status-clause-does g c =
    let asked = c.run_ask in
    rw c.in-Status.is
    (performs _ _ _ _ _ _ _ _ (refl, refl) asked.result asked.ensures.status asked.ensures.quiet asked.ensures.answer)

pub returns-in-Status-clause-ends : goal.returns-in-Status-clause-ends
returns-in-Status-clause-ends g c = record { status = c.run_ask.ensures.status; quiet = c.run_ask.ensures.quiet }

pub returns-in-Missing-clause-does : goal.returns-in-Missing-clause-does
returns-in-Missing-clause-does g c =
    let asked = c.run_ask-in-Missing in
    rw c.in-Missing.is
    (performs _ _ _ _ _ _ _ _ (refl, refl) asked.result asked.ensures.status asked.ensures.quiet asked.ensures.answer)

pub returns-in-Missing-clause-ends : goal.returns-in-Missing-clause-ends
returns-in-Missing-clause-ends g c =
    record { status = c.run_ask-in-Missing.ensures.status; quiet = c.run_ask-in-Missing.ensures.quiet }

pub returns-in-Forks-clause-does : goal.returns-in-Forks-clause-does
returns-in-Forks-clause-does g c =
    let asked = c.run_ask-in-Forks in
    rw c.in-Forks.is
    (performs _ _ _ _ _ _ _ _ (refl, refl) asked.result asked.ensures.status asked.ensures.quiet asked.ensures.answer)

pub returns-in-Forks-clause-ends : goal.returns-in-Forks-clause-ends
returns-in-Forks-clause-ends g c =
    record { status = c.run_ask-in-Forks.ensures.status; quiet = c.run_ask-in-Forks.ensures.quiet }

pub returns-in-Compare-clause-does : goal.returns-in-Compare-clause-does
returns-in-Compare-clause-does g c =
    let compared = c.run_compare in
    rw c.in-Compare.is
    (performs _ _ _ _ _ _ _ _ (refl, refl) compared.result compared.ensures.status compared.ensures.quiet
    compared.ensures.answer)

pub returns-in-Compare-clause-ends : goal.returns-in-Compare-clause-ends
returns-in-Compare-clause-ends g c = record { status = c.run_compare.ensures.status; quiet = c.run_compare.ensures.quiet }

pub returns-in-Prove-clause-does : goal.returns-in-Prove-clause-does
returns-in-Prove-clause-does g c =
    let asked = c.run_ask-in-Prove in
    rw c.in-Prove.is
    (performs _ _ _ _ _ _ _ _ (refl, refl) asked.result asked.ensures.status asked.ensures.quiet asked.ensures.answer)

pub returns-in-Prove-clause-ends : goal.returns-in-Prove-clause-ends
returns-in-Prove-clause-ends g c =
    record { status = c.run_ask-in-Prove.ensures.status; quiet = c.run_ask-in-Prove.ensures.quiet }

pub returns-in-Entries-clause-does : goal.returns-in-Entries-clause-does
returns-in-Entries-clause-does g c = rw c.in-Entries.is c.run-in-Entries.ensures.does

pub returns-in-Serve-clause-does : goal.returns-in-Serve-clause-does
returns-in-Serve-clause-does g c = rw c.in-Serve.is c.run-in-Serve.ensures.does
