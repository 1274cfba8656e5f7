use Rattle.std.proofs.Common.{◌∙◌, List, codes, refl, sym}
use Rattle.std.proofs.lemmas.Bool.{false≢true}
use Rattle.clap.specs.Words.{Row, found_of, rows_of}
use Rattle.program_words.specs.Commands.{IsExport, name_of}
use Rattle.program_words.specs.Readings.{IsSaid}
use Rattle.program_words.specs.declared.commands.Command.TheVariants as order
use Rattle.program_words.specs.declared.commands.StateCommand.{StateCommand}
use Rattle.program_words.specs.declared.commands.StateCommand.TheVariants as state
use Rattle.program_words.specs.declared.commands.export.Export.{Export}
use Rattle.program_words.proofs.Named.{apart, by_state}
use Rattle.program_words.proofs.commands.export.read.Goals as goal

-- both commands with this name
named : (options : List Row) (c : StateCommand) → IsSaid (codes "export") options (order.State c) → (c : Export) × IsExport options c
named options (state.Export c) said = (c, said.1.0)
named options (state.Update c) said = (c, said.1.0)
named options other said = absurd (apart (codes "export") (codes "export") (name_of (order.State other)) refl said.0 refl)

pub returns-then-has_flag : goal.returns-then-has_flag
returns-then-has_flag c = record {
  good = λ g.
      let s1 = c.word_of-folder.ensures.part.good g in
      let s0 = c.state_args-mirror.ensures.good s1.0 in
      (s0.0, (refl, (record { mirror = s0.1; folder = s1.1; progress = c.has_flag-progress.ensures }, c.has_flag.ensures.0 c.if-has_flag.true)));
  bad = λ command said.
      let m = by_state (codes "export") refl refl refl (named (rows_of (found_of c.args.found.now))) command said in
      c.word_of-folder.ensures.part.bad m.0.folder.now m.1.folder ∙ c.state_args-mirror.ensures.bad m.0.mirror m.1.mirror;
}

pub returns-else-has_flag : goal.returns-else-has_flag
returns-else-has_flag c = record {
  good = λ g.
      let s1 = c.word_of-folder.ensures.part.good g in
      let s0 = c.state_args-mirror.ensures.good s1.0 in
      (s0.0, (refl, (record { mirror = s0.1; folder = s1.1; progress = c.has_flag-progress.ensures }, λ h. false≢true (sym c.if-has_flag.false ∙ c.has_flag.ensures.1 h))));
  bad = λ command said.
      let m = by_state (codes "export") refl refl refl (named (rows_of (found_of c.args.found.now))) command said in
      c.word_of-folder.ensures.part.bad m.0.folder.now m.1.folder ∙ c.state_args-mirror.ensures.bad m.0.mirror m.1.mirror;
}
