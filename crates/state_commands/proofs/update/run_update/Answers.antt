use Rattle.state_commands.proofs.update.run_update.Goals as goal

pub returns-in-Ok-clause-answer : goal.returns-in-Ok-clause-answer
returns-in-Ok-clause-answer g c = c.update_into-done.ensures.answer _ _ _ _ c.in-Ok.ensures
