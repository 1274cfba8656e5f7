use Rattle.mirror_files.specs.declared.items.Form.TheVariants.{Hashes}
use Rattle.mirror_files.specs.Items.{item_text}
use Rattle.mirror_files.specs.Putting.{pair_bytes}
use Rattle.mirror_files.proofs.Putting.{puts_none, puts_next, puts_last}
use Rattle.mirror_files.proofs.put.put_each_pair.Goals as goal

pub returns-in_err-put_pair : goal.returns-in_err-put_pair
returns-in_err-put_pair g c =
    puts_last (item_text Hashes) pair_bytes c.args.pairs.now c.loop-left.left-index _ c.from_residual.ensures.0 c.loop-left-test.true
    c.loop-left.invariant c.in_err-put_pair.ensures

pub loop-left-init : goal.loop-left-init
loop-left-init g c = puts_none (g.W.Write.contents c.args.writer.now) c.args.page.now

pub loop-left-preserved : goal.loop-left-preserved
loop-left-preserved g c =
    puts_next (item_text Hashes) pair_bytes c.args.pairs.now c.loop-left.left-index _ c.loop-left-test.true
    c.loop-left.invariant c.in_ok-put_pair.ensures
