use Rattle.std.proofs.Common.{map, take, Ok}
use Rattle.mirror_files.specs.declared.items.Form.TheVariants.{Hashes}
use Rattle.mirror_files.specs.Items.{items_text}
use Rattle.mirror_files.specs.Putting.{pair_bytes, Puts}
use Rattle.mirror_files.proofs.put.put_each_pair.Given as goal

abbrev pub invariant-loop-left : goal.invariant-loop-left
invariant-loop-left g l = Puts (g.W.Write.contents l.fn.writer) (g.W.Write.contents l.writer) l.fn.page l.page
    (items_text Hashes (map pair_bytes (take l.left-index l.pairs))) (Ok tt)
