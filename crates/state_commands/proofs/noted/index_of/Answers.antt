use Rattle.state_commands.proofs.Found.{none_other}
use Rattle.state_commands.proofs.noted.index_of.Goals as goal

pub returns-in-None-clause-none : goal.returns-in-None-clause-none
returns-in-None-clause-none c =
    none_other c.args.heads.now c.args.i c.args.bytes.now c.index_within-in-None.result c.in-None.ensures.none
    c.index_within-in-None.ensures.none
