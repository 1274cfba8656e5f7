use Rattle.tlog_tiles.proofs.Exits.{not_both}
use Rattle.tlog_tiles.proofs.paths.printing.write_three.Goals as goal

pub returns-in_err-write_digit : goal.returns-in_err-write_digit
returns-in_err-write_digit g c = λ plain ok.
    let exit = c.from_residual in
    absurd (not_both exit.result exit.ensures.0 ok)

pub returns-in_err-write_digit-2 : goal.returns-in_err-write_digit-2
returns-in_err-write_digit-2 g c = λ plain ok.
    let exit = c.from_residual-in_err-write_digit-2 in
    absurd (not_both exit.result exit.ensures.0 ok)
