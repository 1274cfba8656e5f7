use Rattle.std.proofs.Common.{List, codes}
use Rattle.clap.specs.Words.{Row, Text, found_of, rows_of}
use Rattle.program_words.specs.Commands.{IsLog}
use Rattle.program_words.specs.Readings.{IsSource, IsWordAlone}
use Rattle.program_words.specs.declared.parts.Log.{Log}
use Rattle.program_words.specs.declared.parts.Source.{Source}
use Rattle.program_words.specs.declared.parts.Source.TheVariants as source
use Rattle.program_words.proofs.Judging.{noted}
use Rattle.program_words.proofs.parts.source_of.Goals as goal

log_in : (options : List Row) (s : Source) → IsSource options s → (log : Log) × IsLog options log
log_in options (source.State args) is = (args.log, is.state.log)
log_in options (source.Copy args) is = (args.log, is.copy.log)

unnamed : (options : List Row) (s : Source) → ((t : Text) → ¬ IsWordAlone options (codes "state") (codes "dir") t)
    → ((t : Text) → ¬ IsWordAlone options (codes "dir") (codes "state") t) → IsSource options s → ⊥
unnamed options (source.State args) state copy is = state args.state.now (is.state.state, is.alone)
unnamed options (source.Copy args) state copy is = copy args.folder.now (is.copy.folder, is.alone)

pub returns-in-Some : goal.returns-in-Some
returns-in-Some c = record {
  good = λ g.
      let s = c.log_of-log.ensures.good g in
      (s.0, record { state = record { log = s.1; state = c.in-Some.ensures.0 }; alone = c.in-Some.ensures.1 });
  bad = λ s is.
      let log = log_in (rows_of (found_of c.args.found.now)) s is in
      c.log_of-log.ensures.bad log.0 log.1;
}

pub returns-in-Some-word_alone : goal.returns-in-Some-word_alone
returns-in-Some-word_alone c = record {
  good = λ g.
      let s = c.log_of-log.ensures.good g in
      let alone = c.in-Some-word_alone.ensures in
      (s.0, record { copy = record { log = s.1; folder = alone.0 }; alone = alone.1 });
  bad = λ s is.
      let log = log_in (rows_of (found_of c.args.found.now)) s is in
      c.log_of-log.ensures.bad log.0 log.1;
}

pub returns-in-None : goal.returns-in-None
returns-in-None c =
    let options = rows_of (found_of c.args.found.now) in
    noted (IsSource options) c.args.refusals.now _ _ (λ s is. unnamed options s c.in_default.ensures c.in-None.ensures is)
    c.note.ensures
