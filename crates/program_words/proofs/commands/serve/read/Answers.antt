use Rattle.std.proofs.Common.{◌∙◌, List, codes, refl, subst}
use Rattle.clap.specs.Words.{Row, found_of, rows_of}
use Rattle.std.proofs.Common.{ℕ}
use Rattle.tlog_shape.specs.declared.TheConstants.{MAX_SIZE}
use Rattle.program_words.specs.Commands.{HasNumber}
use Rattle.program_words.specs.Commands.{name_of}
use Rattle.program_words.specs.Readings.{IsSaid, IsSource}
use Rattle.program_words.specs.declared.commands.Command.TheVariants as order
use Rattle.program_words.specs.declared.commands.CopyCommand.{CopyCommand}
use Rattle.program_words.specs.declared.commands.CopyCommand.TheVariants as copy
use Rattle.program_words.specs.declared.commands.ReportCommand.{ReportCommand}
use Rattle.program_words.specs.declared.commands.ReportCommand.TheVariants as report
use Rattle.program_words.specs.declared.parts.Source.{Source}
use Rattle.program_words.specs.declared.parts.Source.TheVariants as source
use Rattle.program_words.proofs.Named.{apart, by_source}
use Rattle.program_words.proofs.commands.serve.read.Goals as goal

-- the options of the commands with this name
over_state : (options : List Row) (c : ReportCommand) → IsSaid (codes "serve") options (order.Report c) →
    (s : Source) × IsSource options s × (port : ℕ) × HasNumber options (codes "port") 1 65535 port × (n : ℕ) × HasNumber options (codes "requests") 0 MAX_SIZE n
over_state options (report.Serve c) said = (source.State c.mirror, said.1.mirror, c.port, said.1.port, c.requests, said.1.requests)
over_state options other said = absurd (apart (codes "serve") (codes "serve") (name_of (order.Report other)) refl said.0 refl)

over_copy : (options : List Row) (c : CopyCommand) → IsSaid (codes "serve") options (order.Copy c) →
    (s : Source) × IsSource options s × (port : ℕ) × HasNumber options (codes "port") 1 65535 port × (n : ℕ) × HasNumber options (codes "requests") 0 MAX_SIZE n
over_copy options (copy.Serve c) said = (source.Copy c.copy, said.1.copy, c.port, said.1.port, c.requests, said.1.requests)
over_copy options other said = absurd (apart (codes "serve") (codes "serve") (name_of (order.Copy other)) refl said.0 refl)

pub returns-in-State : goal.returns-in-State
returns-in-State c = record {
  good = λ g.
      let s2 = c.size_of-requests.ensures.good g in
      let s1 = c.port_of-port.ensures.good s2.0 in
      let s0 = c.source_of-source.ensures.good s1.0 in
      let args = subst (λ s. IsSource (rows_of (found_of c.args.found.now)) s) c.in-State.is s0.1 in
      (s0.0, (refl, record { mirror = args; port = s1.1; requests = s2.1 }));
  bad = λ command said.
      let m = by_source (codes "serve") refl refl (over_state (rows_of (found_of c.args.found.now)))
      (over_copy (rows_of (found_of c.args.found.now))) command said in
      c.size_of-requests.ensures.bad m.4 m.5
      ∙ (c.port_of-port.ensures.bad m.2 m.3
      ∙ c.source_of-source.ensures.bad m.0 m.1);
}

pub returns-in-Copy : goal.returns-in-Copy
returns-in-Copy c = record {
  good = λ g.
      let s2 = c.size_of-requests.ensures.good g in
      let s1 = c.port_of-port.ensures.good s2.0 in
      let s0 = c.source_of-source.ensures.good s1.0 in
      let args = subst (λ s. IsSource (rows_of (found_of c.args.found.now)) s) c.in-Copy.is s0.1 in
      (s0.0, (refl, record { copy = args; port = s1.1; requests = s2.1; why = c.has_flag-why.ensures }));
  bad = λ command said.
      let m = by_source (codes "serve") refl refl (over_state (rows_of (found_of c.args.found.now)))
      (over_copy (rows_of (found_of c.args.found.now))) command said in
      c.size_of-requests.ensures.bad m.4 m.5
      ∙ (c.port_of-port.ensures.bad m.2 m.3
      ∙ c.source_of-source.ensures.bad m.0 m.1);
}
