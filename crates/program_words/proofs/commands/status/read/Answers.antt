use Rattle.std.proofs.Common.{List, codes, refl, subst}
use Rattle.clap.specs.Words.{Row, found_of, rows_of}
use Rattle.program_words.specs.Commands.{name_of}
use Rattle.program_words.specs.Readings.{IsSaid, IsSource}
use Rattle.program_words.specs.declared.commands.Command.TheVariants as order
use Rattle.program_words.specs.declared.commands.CopyCommand.{CopyCommand}
use Rattle.program_words.specs.declared.commands.CopyCommand.TheVariants as copy
use Rattle.program_words.specs.declared.commands.ReportCommand.{ReportCommand}
use Rattle.program_words.specs.declared.commands.ReportCommand.TheVariants as report
use Rattle.program_words.specs.declared.parts.Source.{Source}
use Rattle.program_words.specs.declared.parts.Source.TheVariants as source
use Rattle.program_words.proofs.Named.{apart, by_source}
use Rattle.program_words.proofs.commands.status.read.Goals as goal

-- the options of the commands with this name
over_state : (options : List Row) (c : ReportCommand) → IsSaid (codes "status") options (order.Report c) →
    (s : Source) × IsSource options s
over_state options (report.Status c) said = (source.State c, said.1)
over_state options other said = absurd (apart (codes "status") (codes "status") (name_of (order.Report other)) refl said.0 refl)

over_copy : (options : List Row) (c : CopyCommand) → IsSaid (codes "status") options (order.Copy c) →
    (s : Source) × IsSource options s
over_copy options (copy.Status c) said = (source.Copy c, said.1)
over_copy options other said = absurd (apart (codes "status") (codes "status") (name_of (order.Copy other)) refl said.0 refl)

pub returns-in-State : goal.returns-in-State
returns-in-State c = record {
  good = λ g.
      let s0 = c.source_of.ensures.good g in
      let args = subst (λ s. IsSource (rows_of (found_of c.args.found.now)) s) c.in-State.is s0.1 in
      (s0.0, (refl, args));
  bad = λ command said.
      let m = by_source (codes "status") refl refl (over_state (rows_of (found_of c.args.found.now)))
      (over_copy (rows_of (found_of c.args.found.now))) command said in
      c.source_of.ensures.bad m.0 m.1;
}

pub returns-in-Copy : goal.returns-in-Copy
returns-in-Copy c = record {
  good = λ g.
      let s0 = c.source_of.ensures.good g in
      let args = subst (λ s. IsSource (rows_of (found_of c.args.found.now)) s) c.in-Copy.is s0.1 in
      (s0.0, (refl, args));
  bad = λ command said.
      let m = by_source (codes "status") refl refl (over_state (rows_of (found_of c.args.found.now)))
      (over_copy (rows_of (found_of c.args.found.now))) command said in
      c.source_of.ensures.bad m.0 m.1;
}
