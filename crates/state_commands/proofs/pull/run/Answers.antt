use Rattle.std.proofs.Common.{refl}
use Rattle.program_io.proofs.Performing.{performs}
use Rattle.state_commands.proofs.pull.run.Goals as goal

pub returns-clause-does : goal.returns-clause-does
returns-clause-does g c =
    performs _ _ _ _ _ _ _ _ refl c.run_pull.result c.run_pull.ensures.status c.run_pull.ensures.quiet c.run_pull.ensures.answer
