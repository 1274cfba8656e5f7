use Rattle.mirror_files.proofs.Putting.{puts_short, puts_then}
use Rattle.mirror_files.proofs.put.put_pair.Goals as goal

pub returns-in_err-put : goal.returns-in_err-put
returns-in_err-put g c = puts_short c.args.right.now c.from_residual.ensures.0 (rw c.as_slice.ensures at c.in_err-put.ensures)

pub returns : goal.returns
returns g c =
    puts_then (rw c.as_slice.ensures at c.in_ok-put.ensures) (rw c.as_slice-2.ensures at c.put-2.ensures)
