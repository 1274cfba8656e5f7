use Rattle.std.proofs.Common.{List, codes, refl}
use Rattle.clap.specs.Words.{Row, found_of, rows_of}
use Rattle.program_words.specs.Commands.{IsRoot, name_of}
use Rattle.program_words.specs.Readings.{IsSaid}
use Rattle.program_words.specs.declared.commands.Command.TheVariants as order
use Rattle.program_words.specs.declared.commands.ReportCommand.{ReportCommand}
use Rattle.program_words.specs.declared.commands.ReportCommand.TheVariants as report
use Rattle.program_words.specs.declared.commands.root.Root.{Root as RootWords}
use Rattle.program_words.proofs.Named.{apart, by_report}
use Rattle.program_words.proofs.commands.root.read.Goals as goal

-- a command with this name
named : (options : List Row) (c : ReportCommand) → IsSaid (codes "root") options (order.Report c) → (c : RootWords) × IsRoot options c
named options (report.Root c) said = (c, said.1)
named options other said = absurd (apart (codes "root") (codes "root") (name_of (order.Report other)) refl said.0 refl)

pub returns : goal.returns
returns c = record {
  good = λ g.
      let s0 = c.width_of-width.ensures.good g in
      (s0.0, (refl, s0.1));
  bad = λ command said.
      let m = by_report (codes "root") refl refl refl (named (rows_of (found_of c.args.found.now))) command said in
      c.width_of-width.ensures.bad m.0.width m.1;
}
