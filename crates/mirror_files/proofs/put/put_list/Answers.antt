use Rattle.std.proofs.Common.{ℕ, List, map}
use Rattle.std.proofs.lemmas.List.{length-map}
use Rattle.std.specs.Borrow.{Bor}
use Rattle.mirror_files.specs.Items.{items_text}
use Rattle.mirror_files.proofs.Putting.{puts_short, puts_then}
use Rattle.mirror_files.proofs.put.put_list.Goals as goal

pub returns-in_err-put_count : goal.returns-in_err-put_count
returns-in_err-put_count g c =
    rw length-map
    (puts_short (items_text c.args.form (map (λ (i : Bor (List ℕ)). i.now) c.args.items.now)) c.from_residual.ensures.0 c.in_err-put_count.ensures)

pub returns : goal.returns
returns g c = rw length-map (puts_then c.in_ok-put_count.ensures c.put_items.ensures)
