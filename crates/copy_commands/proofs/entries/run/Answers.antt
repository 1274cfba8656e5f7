use Rattle.std.proofs.Common.{refl}
use Rattle.copy_commands.proofs.Performing.{writes_entries}
use Rattle.copy_commands.proofs.entries.run.Goals as goal

pub returns-clause-does : goal.returns-clause-does
returns-clause-does g c =
    writes_entries _ _ _ _ c.args.entries.now refl c.entries_of_copy-answer.result
    (c.entries_of_copy-answer.ensures.answer, c.entries_of_copy-answer.ensures.same) c.written.result c.written.ensures
