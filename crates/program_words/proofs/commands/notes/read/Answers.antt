use Rattle.std.proofs.Common.{◌∙◌, List, codes, refl}
use Rattle.clap.specs.Words.{Row, found_of, rows_of}
use Rattle.program_words.specs.Commands.{IsNotes, name_of}
use Rattle.program_words.specs.Readings.{IsSaid}
use Rattle.program_words.specs.declared.commands.Command.TheVariants as order
use Rattle.program_words.specs.declared.commands.StateCommand.{StateCommand}
use Rattle.program_words.specs.declared.commands.StateCommand.TheVariants as state
use Rattle.program_words.specs.declared.commands.notes.Notes.{Notes}
use Rattle.program_words.proofs.Named.{apart, by_state}
use Rattle.program_words.proofs.commands.notes.read.Goals as goal

-- a command with this name
named : (options : List Row) (c : StateCommand) → IsSaid (codes "notes") options (order.State c) → (c : Notes) × IsNotes options c
named options (state.Notes c) said = (c, said.1)
named options other said = absurd (apart (codes "notes") (codes "notes") (name_of (order.State other)) refl said.0 refl)

pub returns : goal.returns
returns c = record {
  good = λ g.
      let s1 = c.word_of-folder.ensures.part.good g in
      let s0 = c.state_args-mirror.ensures.good s1.0 in
      (s0.0, (refl, record { mirror = s0.1; folder = s1.1 }));
  bad = λ command said.
      let m = by_state (codes "notes") refl refl refl (named (rows_of (found_of c.args.found.now))) command said in
      c.word_of-folder.ensures.part.bad m.0.folder.now m.1.folder
      ∙ c.state_args-mirror.ensures.bad m.0.mirror m.1.mirror;
}
