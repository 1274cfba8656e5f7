use Rattle.std.proofs.Common.{◌∙◌, List, codes, map, refl, subst}
use Rattle.clap.specs.Words.{Row, found_of, rows_of}
use Rattle.clap.specs.Words.{Text}
use Rattle.program_words.specs.Commands.{AreFiles}
use Rattle.program_words.specs.Commands.{name_of}
use Rattle.program_words.specs.Readings.{IsSaid, IsSource}
use Rattle.program_words.specs.declared.commands.Command.TheVariants as order
use Rattle.program_words.specs.declared.commands.CopyCommand.{CopyCommand}
use Rattle.program_words.specs.declared.commands.CopyCommand.TheVariants as copy
use Rattle.program_words.specs.declared.commands.ReportCommand.{ReportCommand}
use Rattle.program_words.specs.declared.commands.ReportCommand.TheVariants as report
use Rattle.program_words.specs.declared.parts.Source.{Source}
use Rattle.program_words.specs.declared.parts.Source.TheVariants as source
use Rattle.program_words.proofs.Named.{apart, by_source}
use Rattle.program_words.proofs.commands.compare.read.Goals as goal

-- the options of the commands with this name
over_state : (options : List Row) (c : ReportCommand) → IsSaid (codes "compare") options (order.Report c) →
    (s : Source) × IsSource options s × (files : List Text) × AreFiles options files
over_state options (report.Compare c) said = (source.State c.mirror, said.1.mirror, map (λ f. f.now) c.files.items, said.1.files)
over_state options other said = absurd (apart (codes "compare") (codes "compare") (name_of (order.Report other)) refl said.0 refl)

over_copy : (options : List Row) (c : CopyCommand) → IsSaid (codes "compare") options (order.Copy c) →
    (s : Source) × IsSource options s × (files : List Text) × AreFiles options files
over_copy options (copy.Compare c) said = (source.Copy c.copy, said.1.copy, map (λ f. f.now) c.files.items, said.1.files)
over_copy options other said = absurd (apart (codes "compare") (codes "compare") (name_of (order.Copy other)) refl said.0 refl)

pub returns-in-State : goal.returns-in-State
returns-in-State c = record {
  good = λ g.
      let s1 = c.files_of-files.ensures.good g in
      let s0 = c.source_of-source.ensures.good s1.0 in
      let args = subst (λ s. IsSource (rows_of (found_of c.args.found.now)) s) c.in-State.is s0.1 in
      (s0.0, (refl, record { mirror = args; files = s1.1 }));
  bad = λ command said.
      let m = by_source (codes "compare") refl refl (over_state (rows_of (found_of c.args.found.now)))
      (over_copy (rows_of (found_of c.args.found.now))) command said in
      c.files_of-files.ensures.bad m.2 m.3
      ∙ c.source_of-source.ensures.bad m.0 m.1;
}

pub returns-in-Copy : goal.returns-in-Copy
returns-in-Copy c = record {
  good = λ g.
      let s1 = c.files_of-files.ensures.good g in
      let s0 = c.source_of-source.ensures.good s1.0 in
      let args = subst (λ s. IsSource (rows_of (found_of c.args.found.now)) s) c.in-Copy.is s0.1 in
      (s0.0, (refl, record { copy = args; files = s1.1 }));
  bad = λ command said.
      let m = by_source (codes "compare") refl refl (over_state (rows_of (found_of c.args.found.now)))
      (over_copy (rows_of (found_of c.args.found.now))) command said in
      c.files_of-files.ensures.bad m.2 m.3
      ∙ c.source_of-source.ensures.bad m.0 m.1;
}
