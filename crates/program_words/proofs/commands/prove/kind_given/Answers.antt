use Rattle.clap.specs.Words.{found_of, rows_of}
use Rattle.std.proofs.Common.{codes}
use Rattle.program_words.specs.Commands.{Given}
use Rattle.program_words.specs.Readings.{proof_name}
use Rattle.program_words.specs.declared.commands.prove.ProofKind.TheVariants.{Inclusion}
use Rattle.program_words.proofs.Judging.{kept, noted}
use Rattle.program_words.proofs.commands.prove.kind_given.Goals as goal

pub returns-in-Some : goal.returns-in-Some
returns-in-Some c =
    kept (λ kind. Given (rows_of (found_of c.args.found.now)) (codes "kind") (proof_name kind)) c.args.refusals.now c.in-Some.kind c.in-Some.ensures

pub returns-in-None : goal.returns-in-None
returns-in-None c =
    noted (λ kind. Given (rows_of (found_of c.args.found.now)) (codes "kind") (proof_name kind)) c.args.refusals.now _ Inclusion c.in-None.ensures
    c.note.ensures
