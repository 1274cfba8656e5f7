use Rattle.clap.specs.Words.{found_of, rows_of}
use Rattle.std.proofs.Common.{codes}
use Rattle.program_words.specs.Commands.{HasNumber}
use Rattle.program_words.proofs.Judging.{kept, noted}
use Rattle.program_words.proofs.commands.serve.port_of.Goals as goal

pub returns-in-Some : goal.returns-in-Some
returns-in-Some c =
    kept (HasNumber (rows_of (found_of c.args.found.now)) (codes "port") 1 65535) c.args.refusals.now c.in-Some.port c.in-Some.ensures

pub returns-in-None : goal.returns-in-None
returns-in-None c =
    noted (HasNumber (rows_of (found_of c.args.found.now)) (codes "port") 1 65535) c.args.refusals.now _ 1 c.in-None.ensures
    c.note.ensures
