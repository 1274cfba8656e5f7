use Rattle.std.proofs.Common.{◌∙◌, codes, is_some, option_map, subst, sym}
use Rattle.clap.specs.Words.{found_of, rows_of}
use Rattle.program_words.specs.Refusals.{ReadsPart}
use Rattle.program_words.specs.Readings.{IsSaid}
use Rattle.program_words.proofs.Judging.{judged_so}
use Rattle.program_words.proofs.Refusing.{given_or_none}
use Rattle.program_words.proofs.Lines.{bad_named}
use Rattle.program_words.proofs.reading.line_of.Goals as goal

pub returns : goal.returns
returns c =
    let found = found_of c.args.found.now in
    let Said = IsSaid c.args.name.now (rows_of found) in
    record {
      keys = given_or_none found (codes "keys") (option_map (λ k. k.now) c.get_str-keys.result) c.get_str-keys.ensures;
      why = c.has_flag-why.ensures;
      command = subst (λ r. ReadsPart Said r) (sym c.judged-command.ensures)
          (judged_so Said c.none-refusals.result c.command_of-read.new.refusals c.command_of-read.result c.none-refusals.ensures
          c.command_of-read.ensures);
      bad = λ e. bad_named c.command_of-read.new.refusals.out_of_memory (is_some c.command_of-read.new.refusals.bad)
          c.command_of-read.result (sym c.judged-command.ensures ∙ e);
    }
