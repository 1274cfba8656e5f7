use Rattle.std.proofs.Common.{◌∙◌, List, codes, refl, option_map}
use Rattle.clap.specs.Words.{Row, found_of, rows_of}
use Rattle.program_words.specs.Commands.{IsPull, name_of}
use Rattle.program_words.specs.Readings.{IsSaid}
use Rattle.program_words.specs.declared.commands.Command.TheVariants as order
use Rattle.program_words.specs.declared.commands.StateCommand.{StateCommand}
use Rattle.program_words.specs.declared.commands.StateCommand.TheVariants as state
use Rattle.program_words.specs.declared.commands.pull.Pull.{Pull}
use Rattle.program_words.proofs.Refusing.{given_or_none}
use Rattle.program_words.proofs.Named.{apart, by_state}
use Rattle.program_words.proofs.commands.pull.read.Goals as goal

-- a command with this name
named : (options : List Row) (c : StateCommand) → IsSaid (codes "pull") options (order.State c) → (c : Pull) × IsPull options c
named options (state.Pull c) said = (c, said.1)
named options other said = absurd (apart (codes "pull") (codes "pull") (name_of (order.State other)) refl said.0 refl)

pub returns : goal.returns
returns c = record {
  good = λ g.
      let s2 = c.place_given-place.ensures.good g in
      let s1 = c.pace_of-pace.ensures.good s2.0 in
      let s0 = c.output_args-mirror.ensures.good s1.0 in (
        s0.0,
        (
          refl,
          record {
            mirror = s0.1;
            state = given_or_none (found_of c.args.found.now) (codes "state") (option_map (λ s. s.now) c.get_str-state.result) c.get_str-state.ensures;
            keep = c.has_flag-keep.ensures;
            pace = s1.1;
            progress = c.has_flag-progress.ensures;
            place = s2.1;
          },
        ),
      );
  bad = λ command said.
      let m = by_state (codes "pull") refl refl refl (named (rows_of (found_of c.args.found.now))) command said in
      c.place_given-place.ensures.bad m.0.place m.1.place
      ∙ (c.pace_of-pace.ensures.bad m.0.pace m.1.pace
      ∙ (c.output_args-mirror.ensures.bad m.0.mirror m.1.mirror));
}
