use Rattle.state_commands.proofs.noted.run_notes.Goals as goal

pub returns-in-Ok : goal.returns-in-Ok
returns-in-Ok g c = c.write_notes-done.ensures _ _ _ c.in-Ok.ensures
