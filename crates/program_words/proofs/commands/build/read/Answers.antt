use Rattle.std.proofs.Common.{◌∙◌, List, codes, refl}
use Rattle.clap.specs.Words.{Row, found_of, rows_of}
use Rattle.program_words.specs.Commands.{IsBuild, name_of}
use Rattle.program_words.specs.Readings.{IsSaid}
use Rattle.program_words.specs.declared.commands.Command.TheVariants as order
use Rattle.program_words.specs.declared.commands.StateCommand.{StateCommand}
use Rattle.program_words.specs.declared.commands.StateCommand.TheVariants as state
use Rattle.program_words.specs.declared.commands.build.Build.{Build}
use Rattle.program_words.proofs.Named.{apart, by_state}
use Rattle.program_words.proofs.commands.build.read.Goals as goal

-- a command with this name
named : (options : List Row) (c : StateCommand) → IsSaid (codes "build") options (order.State c) → (c : Build) × IsBuild options c
named options (state.Build c) said = (c, said.1)
named options other said = absurd (apart (codes "build") (codes "build") (name_of (order.State other)) refl said.0 refl)

pub returns : goal.returns
returns c = record {
  good = λ g.
      let s1 = c.word_of-folder.ensures.part.good g in
      let s0 = c.log_of-log.ensures.good s1.0 in
      (s0.0, (refl, record { log = s0.1; folder = s1.1; progress = c.has_flag-progress.ensures }));
  bad = λ command said.
      let m = by_state (codes "build") refl refl refl (named (rows_of (found_of c.args.found.now))) command said in
      c.word_of-folder.ensures.part.bad m.0.folder.now m.1.folder
      ∙ c.log_of-log.ensures.bad m.0.log m.1.log;
}
