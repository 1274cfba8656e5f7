use Rattle.std.proofs.Common.{◌∙◌, List, codes, refl}
use Rattle.clap.specs.Words.{Row, found_of, rows_of}
use Rattle.program_words.specs.Commands.{IsMerge, name_of}
use Rattle.program_words.specs.Readings.{IsSaid}
use Rattle.program_words.specs.declared.commands.Command.TheVariants as order
use Rattle.program_words.specs.declared.commands.StateCommand.{StateCommand}
use Rattle.program_words.specs.declared.commands.StateCommand.TheVariants as state
use Rattle.program_words.specs.declared.commands.merge.Merge.{Merge}
use Rattle.program_words.proofs.Named.{apart, by_state}
use Rattle.program_words.proofs.commands.merge.read.Goals as goal

-- a command with this name
named : (options : List Row) (c : StateCommand) → IsSaid (codes "merge") options (order.State c) → (c : Merge) × IsMerge options c
named options (state.Merge c) said = (c, said.1)
named options other said = absurd (apart (codes "merge") (codes "merge") (name_of (order.State other)) refl said.0 refl)

pub returns : goal.returns
returns c = record {
  good = λ g.
      let s2 = c.word_of-second.ensures.part.good g in
      let s1 = c.word_of-first.ensures.part.good s2.0 in
      let s0 = c.output_args-mirror.ensures.good s1.0 in
      (s0.0, (refl, record { mirror = s0.1; first = s1.1; second = s2.1 }));
  bad = λ command said.
      let m = by_state (codes "merge") refl refl refl (named (rows_of (found_of c.args.found.now))) command said in
      c.word_of-second.ensures.part.bad m.0.second.now m.1.second
      ∙ (c.word_of-first.ensures.part.bad m.0.first.now m.1.first
      ∙ (c.output_args-mirror.ensures.bad m.0.mirror m.1.mirror));
}
