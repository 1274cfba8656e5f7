use Rattle.std.proofs.Common.{map, string_bytes}
use Rattle.clap.specs.Words.{found_of, rows_of}
use Rattle.program_words.proofs.CommandLaws.{lawful_one}
use Rattle.program_words.proofs.Lines.{called, nothing_named}
use Rattle.program_words.proofs.reading.command_found.Goals as goal

pub returns-in-Some : goal.returns-in-Some
returns-in-Some c =
    let words = map string_bytes c.args.words.now in
    let is = c.in-Ok.ensures.matches in
    record {
      called = called words c.in-Ok.matches c.in-Some.name.now (rows_of (found_of c.in-Some.found)) is.lawful is.matched
          c.in-Some.ensures.name c.in-Some.ensures.rows;
      refused = tt;
    }

pub returns-in-None : goal.returns-in-None
returns-in-None c =
    let words = map string_bytes c.args.words.now in
    let is = c.in-Ok.ensures.matches in
    let one = lawful_one words is.lawful in
    record { called = tt; refused = nothing_named words c.in-Ok.matches one.0 one.1 is.matched c.in-None.ensures.rows one.2 }
