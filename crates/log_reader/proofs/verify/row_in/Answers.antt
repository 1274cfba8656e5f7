use Rattle.log_reader.proofs.Refusing.{no_row}
use Rattle.log_reader.proofs.verify.row_in.Goals as goal

pub returns-in-Err-RowLength-clause-none : goal.returns-in-Err-RowLength-clause-none
returns-in-Err-RowLength-clause-none c = λ row is.
    no_row c.args.width c.args.bytes.now (rw c.in-Err-RowLength.field-0-is at c.in-Err-RowLength.ensures) row is
