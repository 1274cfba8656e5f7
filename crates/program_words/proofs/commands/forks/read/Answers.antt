use Rattle.std.proofs.Common.{List, codes, refl}
use Rattle.clap.specs.Words.{Row, found_of, rows_of}
use Rattle.program_words.specs.Commands.{IsStateArgs, name_of}
use Rattle.program_words.specs.Readings.{IsSaid}
use Rattle.program_words.specs.declared.commands.Command.TheVariants as order
use Rattle.program_words.specs.declared.commands.ReportCommand.{ReportCommand}
use Rattle.program_words.specs.declared.commands.ReportCommand.TheVariants as report
use Rattle.program_words.specs.declared.parts.StateArgs.{StateArgs}
use Rattle.program_words.proofs.Named.{apart, by_report}
use Rattle.program_words.proofs.commands.forks.read.Goals as goal

-- a command with this name
named : (options : List Row) (c : ReportCommand) → IsSaid (codes "forks") options (order.Report c) → (c : StateArgs) × IsStateArgs options c
named options (report.Forks c) said = (c, said.1)
named options other said = absurd (apart (codes "forks") (codes "forks") (name_of (order.Report other)) refl said.0 refl)

pub returns : goal.returns
returns c = record {
  good = λ g.
      let s0 = c.state_args.ensures.good g in
      (s0.0, (refl, s0.1));
  bad = λ command said.
      let m = by_report (codes "forks") refl refl refl (named (rows_of (found_of c.args.found.now))) command said in
      c.state_args.ensures.bad m.0 m.1;
}
