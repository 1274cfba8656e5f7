use Rattle.tlog_tiles.proofs.Exits.{not_both}
use Rattle.tlog_tiles.proofs.paths.printing.PathDisplay.fmt.Goals as goal

pub returns-in_err-write-in-Tile-clause-writes : goal.returns-in_err-write-in-Tile-clause-writes
returns-in_err-write-in-Tile-clause-writes g c = λ plain ok.
    let exit = c.from_residual in
    absurd (not_both exit.result exit.ensures.0 ok)

pub returns-in_err-write_str-in-Entries-clause-writes : goal.returns-in_err-write_str-in-Entries-clause-writes
returns-in_err-write_str-in-Entries-clause-writes g c = λ plain ok.
    let exit = c.from_residual-in_err-write_str-in-Entries in
    absurd (not_both exit.result exit.ensures.0 ok)
