use Rattle.std.proofs.Common.{arith}
use Rattle.state_commands.proofs.Found.{note_found, none_more}
use Rattle.state_commands.proofs.noted.index_within.Goals as goal

pub returns-then-is_head-clause-found : goal.returns-then-is_head-clause-found
returns-then-is_head-clause-found c =
    note_found c.args.heads.now c.args.i c.loop-j.j _ _ c.args.bytes.now c.requires.within (omega arith)
    (c.is_head.ensures.0 c.if-is_head.true)

pub loop-j-preserved : goal.loop-j-preserved
loop-j-preserved c =
    none_more c.args.heads.now c.args.i c.loop-j.j c.args.start _ _ c.args.bytes.now c.is_head.result c.requires.within
    (omega arith) c.is_head.ensures c.if-is_head.false c.loop-j.invariant
