use Rattle.std.proofs.Common.{◌∙◌, List, codes, refl}
use Rattle.clap.specs.Words.{Row, found_of, rows_of}
use Rattle.program_words.specs.Commands.{IsAudit, name_of}
use Rattle.program_words.specs.Readings.{IsSaid}
use Rattle.program_words.specs.declared.commands.Command.TheVariants as order
use Rattle.program_words.specs.declared.commands.PlaceCommand.{PlaceCommand}
use Rattle.program_words.specs.declared.commands.PlaceCommand.TheVariants as place
use Rattle.program_words.specs.declared.commands.audit.Audit.{Audit}
use Rattle.program_words.proofs.Named.{apart, by_place}
use Rattle.program_words.proofs.commands.audit.read.Goals as goal

-- a command with this name
named : (options : List Row) (c : PlaceCommand) → IsSaid (codes "audit") options (order.Place c) → (c : Audit) × IsAudit options c
named options (place.Audit c) said = (c, said.1)
named options other said = absurd (apart (codes "audit") (codes "audit") (name_of (order.Place other)) refl said.0 refl)

pub returns : goal.returns
returns c = record {
  good = λ g.
      let s2 = c.place_given-place.ensures.good g in
      let s1 = c.pace_of-pace.ensures.good s2.0 in
      let s0 = c.log_of-log.ensures.good s1.0 in
      (s0.0, (refl, record { log = s0.1; pace = s1.1; progress = c.has_flag-progress.ensures; place = s2.1 }));
  bad = λ command said.
      let m = by_place (codes "audit") refl refl refl (named (rows_of (found_of c.args.found.now))) command said in
      c.place_given-place.ensures.bad m.0.place m.1.place
      ∙ (c.pace_of-pace.ensures.bad m.0.pace m.1.pace
      ∙ (c.log_of-log.ensures.bad m.0.log m.1.log));
}
