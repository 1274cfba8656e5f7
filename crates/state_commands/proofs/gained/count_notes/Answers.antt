use Rattle.std.proofs.Common.{arith}
use Rattle.state_commands.proofs.Sizes.{more_notes, no_more_notes}
use Rattle.state_commands.proofs.gained.count_notes.Goals as goal

pub returns-in_default : goal.returns-in_default
returns-in_default g c =
    let most = no_more_notes c.args.mirror.now.view c.loop-i.i c.in_default.ensures in
    let least = c.loop-i.invariant in
    omega (arith, most, least)

pub loop-i-preserved : goal.loop-i-preserved
loop-i-preserved g c = more_notes c.args.mirror.now.view c.loop-i.i _ c.in-Some.ensures
