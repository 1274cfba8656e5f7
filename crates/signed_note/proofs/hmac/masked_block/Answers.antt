use Rattle.std.proofs.Common.{refl}
use Rattle.signed_note.proofs.MaskedBlocks.{one_more, all_masked}
use Rattle.signed_note.proofs.hmac.masked_block.Goals as goal

pub loop-i-preserved : goal.loop-i-preserved
loop-i-preserved c =
    one_more c.args.mask c.loop-i.i _ c.args.key.now c.loop-i.block c.loop-i.invariant c.loop-i-test.true
    c.requires refl

pub returns : goal.returns
returns c =
    all_masked c.args.mask c.loop-i.i c.args.key.now c.loop-i.block c.loop-i-test.false c.loop-i.auto.i-end
    c.loop-i.invariant
