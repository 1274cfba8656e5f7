use Rattle.std.proofs.Common.{map, option_map, string_bytes}
use Rattle.clap.specs.Words.{found_of, rows_of}
use Rattle.program_words.proofs.Lines.{keys_read, read_refused, understood, why_read}
use Rattle.program_words.proofs.reading.read_line.Goals as goal

pub returns-in-Ok : goal.returns-in-Ok
returns-in-Ok c =
    let words = map string_bytes c.args.words.now in
    let options = rows_of (found_of c.in-Ok.found) in
    let line = c.line_of-line.result in
    let calls = c.in-Ok.ensures.called in
    record {
      line = record {
        keys = keys_read words c.in-Ok.name.now options (option_map (λ k. k.now) line.keys) calls c.line_of-line.ensures.keys;
        why = why_read words c.in-Ok.name.now options line.why calls c.line_of-line.ensures.why;
        command = understood words c.in-Ok.name.now options line.command calls c.line_of-line.ensures.command;
      };
      bad = c.line_of-line.ensures.bad;
      none = tt;
      refused = tt;
    }

pub returns-in-Err : goal.returns-in-Err
returns-in-Err c = record {
  line = tt;
  bad = tt;
  none = read_refused (map string_bytes c.args.words.now) c.in-Err.fault c.in-Err.ensures.refused;
  refused = c.in-Err.ensures.refused;
}
