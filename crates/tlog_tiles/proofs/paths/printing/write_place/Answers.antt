use Rattle.tlog_tiles.proofs.Exits.{not_both}
use Rattle.tlog_tiles.proofs.paths.printing.write_place.Goals as goal

pub returns-in_err-write_groups : goal.returns-in_err-write_groups
returns-in_err-write_groups g c = λ plain ok.
    let exit = c.from_residual in
    absurd (not_both exit.result exit.ensures.0 ok)

pub returns-in_err-write_three : goal.returns-in_err-write_three
returns-in_err-write_three g c = λ plain ok.
    let exit = c.from_residual-in_err-write_three in
    absurd (not_both exit.result exit.ensures.0 ok)
