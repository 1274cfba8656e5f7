use Rattle.clap.specs.Words.{found_of, rows_of}
use Rattle.program_words.specs.Commands.{IsWait}
use Rattle.program_words.proofs.Judging.{kept, noted}
use Rattle.program_words.proofs.parts.wait_of.Goals as goal

pub returns-in-Some : goal.returns-in-Some
returns-in-Some c =
    kept (IsWait (rows_of (found_of c.args.found.now))) c.args.refusals.now c.in-Some.wait c.in-Some.ensures

pub returns-in-None : goal.returns-in-None
returns-in-None c =
    noted (IsWait (rows_of (found_of c.args.found.now))) c.args.refusals.now _ 0 c.in-None.ensures
    c.note.ensures
