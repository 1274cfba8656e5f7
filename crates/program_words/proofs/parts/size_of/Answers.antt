use Rattle.clap.specs.Words.{found_of, rows_of}
use Rattle.tlog_shape.specs.declared.TheConstants.{MAX_SIZE}
use Rattle.program_words.specs.Commands.{HasNumber}
use Rattle.program_words.proofs.Judging.{kept, noted}
use Rattle.program_words.proofs.parts.size_of.Goals as goal

pub returns-in-Some : goal.returns-in-Some
returns-in-Some c =
    kept (HasNumber (rows_of (found_of c.args.found.now)) c.args.name.now 0 MAX_SIZE) c.args.refusals.now c.in-Some.size c.in-Some.ensures

pub returns-in-None : goal.returns-in-None
returns-in-None c =
    noted (HasNumber (rows_of (found_of c.args.found.now)) c.args.name.now 0 MAX_SIZE) c.args.refusals.now _ 0 c.in-None.ensures
    c.note.ensures
