use Rattle.std.proofs.Common.{◌∙◌}
use Rattle.mirror_files.proofs.Putting.{puts_short, puts_then}
use Rattle.mirror_files.proofs.put.put_long.Goals as goal

pub returns-in_err-put : goal.returns-in_err-put
returns-in_err-put g c =
    puts_short c.args.item.now c.from_residual.ensures.0 (rw (c.as_slice.ensures ∙ c.to_be_bytes.ensures) at c.in_err-put.ensures)

pub returns : goal.returns
returns g c = puts_then (rw (c.as_slice.ensures ∙ c.to_be_bytes.ensures) at c.in_ok-put.ensures) c.put-2.ensures
