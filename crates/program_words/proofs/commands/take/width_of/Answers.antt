use Rattle.clap.specs.Words.{found_of, rows_of}
use Rattle.std.proofs.Common.{codes}
use Rattle.clap.specs.Words.{first_of}
use Rattle.program_words.specs.Commands.{IsTakeWidth}
use Rattle.program_words.proofs.Judging.{kept, noted}
use Rattle.program_words.proofs.commands.take.width_of.Goals as goal

pub returns-in-Some : goal.returns-in-Some
returns-in-Some c =
    kept (IsTakeWidth (first_of (codes "width") (rows_of (found_of c.args.found.now)))) c.args.refusals.now c.in-Some.width c.in-Some.ensures

pub returns-in-None : goal.returns-in-None
returns-in-None c =
    noted (IsTakeWidth (first_of (codes "width") (rows_of (found_of c.args.found.now)))) c.args.refusals.now _ 256 c.in-None.ensures
    c.note.ensures
