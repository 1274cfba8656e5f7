-- Each arm gives the answer of its command.
use Rattle.std.proofs.Common.{refl}
use Rattle.copy_commands.proofs.Performing.{prints_compared, prints_copy}
use Rattle.copy_commands.proofs.copied.run_copy.Goals as goal

pub returns-in-Status-clause-does : goal.returns-in-Status-clause-does
returns-in-Status-clause-does g c =
    let was = c.status_copy-answer in
    rw c.in-Status.is
    (prints_copy _ _ _ _ _ c.in-Status.copy c.in-Status.copy _ refl (λ answer h. h) was.result was.ensures.status
    was.ensures.quiet was.ensures.answer was.ensures.kept c.asked.result c.asked.ensures)

pub returns-in-Compare-clause-does : goal.returns-in-Compare-clause-does
returns-in-Compare-clause-does g c =
    let was = c.compare_copy-answer in
    rw c.in-Compare.is
    (prints_compared _ _ _ _ c.in-Compare.compare c.deref.result.now c.deref.ensures.value refl was.result was.ensures.status
    was.ensures.quiet was.ensures.answer was.ensures.kept c.asked-in-Compare.result c.asked-in-Compare.ensures)

pub returns-in-Prove-clause-does : goal.returns-in-Prove-clause-does
returns-in-Prove-clause-does g c =
    let was = c.prove_copy-answer in
    rw c.in-Prove.is
    (prints_copy _ _ _ _ _ c.in-Prove.prove c.in-Prove.prove.copy _ refl (λ answer h. h) was.result was.ensures.status
    was.ensures.quiet was.ensures.answer was.ensures.kept c.asked-in-Prove.result c.asked-in-Prove.ensures)

pub returns-in-Entries-clause-does : goal.returns-in-Entries-clause-does
returns-in-Entries-clause-does g c = rw c.in-Entries.is c.run.ensures.does

pub returns-in-Serve-clause-does : goal.returns-in-Serve-clause-does
returns-in-Serve-clause-does g c = rw c.in-Serve.is c.run-in-Serve.ensures.does
