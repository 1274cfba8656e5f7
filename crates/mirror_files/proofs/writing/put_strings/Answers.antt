use Rattle.std.proofs.Common.{ℕ, List, map}
use Rattle.std.specs.Borrow.{Bor}
use Rattle.mirror_files.specs.declared.items.Form.TheVariants.{Short}
use Rattle.mirror_files.specs.Items.{list_text}
use Rattle.mirror_files.proofs.Putting.{puts_short, puts_then}
use Rattle.mirror_files.proofs.writing.put_strings.Goals as goal

pub returns-in_err-put_pairs : goal.returns-in_err-put_pairs
returns-in_err-put_pairs g c =
    puts_short (list_text Short (map (λ (i : Bor (List ℕ)). i.now) c.args.held.now.entries.items))
    c.from_residual.ensures.0 (rw c.as_slice.ensures.value at c.in_err-put_pairs.ensures)

pub returns : goal.returns
returns g c =
    puts_then (rw c.as_slice.ensures.value at c.in_ok-put_pairs.ensures)
    (rw c.as_slice-2.ensures.value at c.put_list.ensures)
