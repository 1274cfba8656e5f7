use Rattle.std.proofs.Common.{◌∙◌, List, codes, refl, option_map}
use Rattle.clap.specs.Words.{Row, found_of, rows_of}
use Rattle.program_words.specs.Commands.{IsFollow, name_of}
use Rattle.program_words.specs.Readings.{IsSaid}
use Rattle.program_words.specs.declared.commands.Command.TheVariants as order
use Rattle.program_words.specs.declared.commands.PlaceCommand.{PlaceCommand}
use Rattle.program_words.specs.declared.commands.PlaceCommand.TheVariants as place
use Rattle.program_words.specs.declared.commands.follow.Follow.{Follow}
use Rattle.program_words.proofs.Refusing.{given_or_none}
use Rattle.program_words.proofs.Named.{apart, by_place}
use Rattle.program_words.proofs.commands.follow.read.Goals as goal

-- a command with this name
named : (options : List Row) (c : PlaceCommand) → IsSaid (codes "follow") options (order.Place c) → (c : Follow) × IsFollow options c
named options (place.Follow c) said = (c, said.1)
named options other said = absurd (apart (codes "follow") (codes "follow") (name_of (order.Place other)) refl said.0 refl)

pub returns : goal.returns
returns c = record {
  good = λ g.
      let s2 = c.places_given-places.ensures.good g in
      let s1 = c.pace_of-pace.ensures.good s2.0 in
      let s0 = c.copy_args-copy.ensures.good s1.0 in (
        s0.0,
        (
          refl,
          record {
            copy = s0.1;
            checkpoint = given_or_none (found_of c.args.found.now) (codes "checkpoint") (option_map (λ s. s.now) c.get_str-checkpoint.result) c.get_str-checkpoint.ensures;
            forks = given_or_none (found_of c.args.found.now) (codes "forks") (option_map (λ s. s.now) c.get_str-forks.result) c.get_str-forks.ensures;
            repair = c.has_flag-repair.ensures;
            pace = s1.1;
            progress = c.has_flag-progress.ensures;
            why = c.has_flag-why.ensures;
            places = s2.1;
          },
        ),
      );
  bad = λ command said.
      let m = by_place (codes "follow") refl refl refl (named (rows_of (found_of c.args.found.now))) command said in
      c.places_given-places.ensures.bad m.0.places.items m.1.places
      ∙ (c.pace_of-pace.ensures.bad m.0.pace m.1.pace
      ∙ (c.copy_args-copy.ensures.bad m.0.copy m.1.copy));
}
