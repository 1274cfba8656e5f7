use Rattle.std.proofs.Common.{map, take, Ok}
use Rattle.mirror_files.specs.Items.{items_text}
use Rattle.mirror_files.specs.Putting.{Puts}
use Rattle.mirror_files.proofs.put.put_items.Given as goal

abbrev pub invariant-loop-item : goal.invariant-loop-item
invariant-loop-item g l = Puts (g.W.Write.contents l.fn.writer) (g.W.Write.contents l.writer) l.fn.page l.page
    (items_text l.form (map (λ i. i.now) (take l.item-index l.items))) (Ok tt)
