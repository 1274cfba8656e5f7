use Rattle.state_commands.proofs.exporting.run_export.Goals as goal

pub returns-in-Ok-clause-answer : goal.returns-in-Ok-clause-answer
returns-in-Ok-clause-answer g c = c.export_into-done.ensures.answer _ _ _ _ c.in-Ok.ensures
