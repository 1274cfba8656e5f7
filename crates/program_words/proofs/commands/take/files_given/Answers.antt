use Rattle.std.proofs.Common.{◌∙◌, subst, sym}
use Rattle.std.proofs.lemmas.Bool.{false≢true}
use Rattle.clap.specs.Words.{found_of, rows_of}
use Rattle.program_words.specs.Commands.{IsCount}
use Rattle.program_words.specs.Readings.{AreFilesOf}
use Rattle.program_words.proofs.Judging.{noted}
use Rattle.program_words.proofs.commands.take.files_given.Goals as goal

pub returns-then-is_count : goal.returns-then-is_count
returns-then-is_count c = record {
  good = λ g. let s = c.files_of.ensures.good g in
      (s.0, (s.1, subst (λ n. IsCount c.args.kind n) (c.count_of.ensures _ s.1) (c.is_count.ensures.0 c.if-is_count.true)));
  bad = λ files is. c.files_of.ensures.bad files is.0;
}

pub returns-else-is_count : goal.returns-else-is_count
returns-else-is_count c =
    noted (AreFilesOf c.args.kind (rows_of (found_of c.args.found.now))) c.args.refusals.now _ _
    (λ files is. false≢true (sym c.if-is_count.false
    ∙ c.is_count.ensures.1 (subst (λ n. IsCount c.args.kind n) (sym (c.count_of.ensures files is.0)) is.1)))
    c.note.ensures
