use Rattle.clap.specs.Words.{found_of, rows_of}
use Rattle.program_words.specs.Commands.{IsRootGiven}
use Rattle.program_words.proofs.Judging.{kept, noted}
use Rattle.program_words.proofs.commands.missing.root_of.Goals as goal

pub returns-in-Some : goal.returns-in-Some
returns-in-Some c =
    kept (IsRootGiven (rows_of (found_of c.args.found.now))) c.args.refusals.now c.in-Some.root c.in-Some.ensures

pub returns-in-None : goal.returns-in-None
returns-in-None c =
    noted (IsRootGiven (rows_of (found_of c.args.found.now))) c.args.refusals.now _ _ c.in-None.ensures
    c.note.ensures
