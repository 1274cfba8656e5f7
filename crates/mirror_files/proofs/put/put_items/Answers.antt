use Rattle.std.proofs.Common.{ℕ, List, [], subst, ◌<◌, sym}
use Rattle.std.proofs.lemmas.List.{length-map, get_or-map}
use Rattle.std.specs.Borrow.{Bor}
use Rattle.mirror_files.specs.Items.{item_text, IsItem}
use Rattle.mirror_files.proofs.Putting.{puts_none, puts_next, puts_last}
use Rattle.mirror_files.proofs.put.put_items.Goals as goal

pub put_item-requires : goal.put_item-requires
put_item-requires g c = subst (IsItem c.args.form) (get_or-map (λ (i : Bor (List ℕ)). i.now)
    c.args.items.now c.loop-item.item-index (record { ref_ptr = (0, 0); now = [] }) [] c.loop-item-test.true)
    (c.requires c.loop-item.item-index [] (subst (λ n. c.loop-item.item-index < n)
    (sym (length-map c.args.items.now (λ (i : Bor (List ℕ)). i.now))) c.loop-item-test.true))

pub returns-in_err-put_item : goal.returns-in_err-put_item
returns-in_err-put_item g c =
    puts_last (item_text c.args.form) (λ (i : Bor (List ℕ)). i.now) c.args.items.now c.loop-item.item-index _ c.from_residual.ensures.0
    c.loop-item-test.true c.loop-item.invariant c.in_err-put_item.ensures

pub loop-item-init : goal.loop-item-init
loop-item-init g c = puts_none (g.W.Write.contents c.args.writer.now) c.args.page.now

pub loop-item-preserved : goal.loop-item-preserved
loop-item-preserved g c =
    puts_next (item_text c.args.form) (λ (i : Bor (List ℕ)). i.now) c.args.items.now c.loop-item.item-index _
    c.loop-item-test.true c.loop-item.invariant c.in_ok-put_item.ensures
