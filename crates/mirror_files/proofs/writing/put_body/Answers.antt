use Rattle.std.proofs.Common.{◌++◌, ℕ, List, map}
use Rattle.std.specs.Borrow.{Bor}
use Rattle.mirror_files.specs.declared.items.Form.TheVariants.{Short, Long, Hashes}
use Rattle.mirror_files.specs.declared.listing.Sorted.{Sorted}
use Rattle.mirror_files.specs.Items.{item_text, list_text}
use Rattle.mirror_files.specs.Putting.{pair_bytes}
use Rattle.mirror_files.proofs.Putting.{puts_short, puts_then}
use Rattle.mirror_files.proofs.writing.put_body.Goals as goal

-- the parts after the notes, and after the origin
abbrev items_in : List (Bor (List ℕ)) → List (List ℕ)
items_in items = map (λ (i : Bor (List ℕ)). i.now) items

abbrev strings_text : Sorted → List ℕ
strings_text held = list_text Hashes (map pair_bytes held.pairs.items) ++ list_text Short (items_in held.entries.items)

abbrev notes_text : List (Bor (List ℕ)) → Sorted → List ℕ
notes_text notes held = list_text Long (items_in notes) ++ strings_text held

pub returns-in_err-put : goal.returns-in_err-put
returns-in_err-put g c =
    puts_short (item_text Short c.args.origin.now ++ notes_text c.args.notes.now c.args.held.now)
    c.from_residual.ensures.0 (rw c.as_slice.ensures at c.in_err-put.ensures)

pub returns-in_err-put_short : goal.returns-in_err-put_short
returns-in_err-put_short g c =
    puts_then (rw c.as_slice.ensures at c.in_ok-put.ensures)
    (puts_short (notes_text c.args.notes.now c.args.held.now) c.from_residual-in_err-put_short.ensures.0
    c.in_err-put_short.ensures)

pub returns-in_err-put_list : goal.returns-in_err-put_list
returns-in_err-put_list g c =
    puts_then (rw c.as_slice.ensures at c.in_ok-put.ensures)
    (puts_then c.in_ok-put_short.ensures
    (puts_short (strings_text c.args.held.now) c.from_residual-in_err-put_list.ensures.0 c.in_err-put_list.ensures))

pub returns : goal.returns
returns g c =
    puts_then (rw c.as_slice.ensures at c.in_ok-put.ensures)
    (puts_then c.in_ok-put_short.ensures (puts_then c.in_ok-put_list.ensures c.put_strings.ensures))
