use Rattle.std.proofs.Common.{◌∙◌, List, codes, refl}
use Rattle.clap.specs.Words.{Row, found_of, rows_of}
use Rattle.program_words.specs.Commands.{IsMissingAsk, name_of}
use Rattle.program_words.specs.Readings.{IsSaid}
use Rattle.program_words.specs.declared.commands.Command.TheVariants as order
use Rattle.program_words.specs.declared.commands.ReportCommand.{ReportCommand}
use Rattle.program_words.specs.declared.commands.ReportCommand.TheVariants as report
use Rattle.program_words.specs.declared.commands.missing.Missing.{Missing}
use Rattle.program_words.proofs.Named.{apart, by_report}
use Rattle.program_words.proofs.commands.missing.read.Goals as goal

-- a command with this name
named : (options : List Row) (c : ReportCommand) → IsSaid (codes "missing") options (order.Report c) → (c : Missing) × IsMissingAsk options c
named options (report.Missing c) said = (c, said.1)
named options other said = absurd (apart (codes "missing") (codes "missing") (name_of (order.Report other)) refl said.0 refl)

pub returns : goal.returns
returns c = record {
  good = λ g.
      let s2 = c.root_of-root.ensures.good g in
      let s1 = c.size_of-size.ensures.good s2.0 in
      let s0 = c.state_args-mirror.ensures.good s1.0 in
      (s0.0, (refl, record { mirror = s0.1; size = s1.1; root = s2.1 }));
  bad = λ command said.
      let m = by_report (codes "missing") refl refl refl (named (rows_of (found_of c.args.found.now))) command said in
      c.root_of-root.ensures.bad m.0.root m.1.root
      ∙ (c.size_of-size.ensures.bad m.0.size m.1.size
      ∙ (c.state_args-mirror.ensures.bad m.0.mirror m.1.mirror));
}
