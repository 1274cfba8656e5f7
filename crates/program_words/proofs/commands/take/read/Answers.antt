use Rattle.std.proofs.Common.{◌∙◌, List, codes, length, map, option_map, refl, subst, sym}
use Rattle.std.proofs.lemmas.List.{length-map}
use Rattle.clap.specs.Words.{Row, found_of, rows_of}
use Rattle.program_words.specs.Commands.{IsCount, IsTake, name_of}
use Rattle.program_words.specs.Readings.{IsSaid}
use Rattle.program_words.specs.declared.commands.Command.TheVariants as order
use Rattle.program_words.specs.declared.commands.StateCommand.{StateCommand}
use Rattle.program_words.specs.declared.commands.StateCommand.TheVariants as state
use Rattle.program_words.specs.declared.commands.take.Take.{Take}
use Rattle.program_words.proofs.Refusing.{given_or_none}
use Rattle.program_words.proofs.Named.{apart, by_state}
use Rattle.program_words.proofs.commands.take.read.Goals as goal

-- a command with this name
named : (options : List Row) (c : StateCommand) → IsSaid (codes "take") options (order.State c) → (c : Take) × IsTake options c
named options (state.Take c) said = (c, said.1)
named options other said = absurd (apart (codes "take") (codes "take") (name_of (order.State other)) refl said.0 refl)

pub returns : goal.returns
returns c = record {
  good = λ g.
      let s3 = c.files_given-files.ensures.good g in
      let s2 = c.kind_given-kind.ensures.part.good s3.0 in
      let s1 = c.width_of-width.ensures.good s2.0 in
      let s0 = c.output_args-mirror.ensures.good s1.0 in (
        s0.0,
        (
          refl,
          record {
            mirror = s0.1;
            state = given_or_none (found_of c.args.found.now) (codes "state") (option_map (λ s. s.now) c.get_str-state.result) c.get_str-state.ensures;
            width = s1.1;
            kind = s2.1;
            files = s3.1.0;
            count = subst (IsCount c.kind_given-kind.result) (length-map c.files_given-files.result.items (λ f. f.now)) s3.1.1;
          },
        ),
      );
  bad = λ command said.
      let m = by_state (codes "take") refl refl refl (named (rows_of (found_of c.args.found.now))) command said in
      let same = c.kind_given-kind.ensures.one m.0.kind m.1.kind in
      let count = subst (λ n. IsCount c.kind_given-kind.result n) (sym (length-map m.0.files.items (λ f. f.now)))
      (subst (λ k. IsCount k (length m.0.files.items)) (sym same) m.1.count) in
      c.files_given-files.ensures.bad (map (λ f. f.now) m.0.files.items) (m.1.files, count)
      ∙ (c.kind_given-kind.ensures.part.bad m.0.kind m.1.kind
      ∙ (c.width_of-width.ensures.bad m.0.width m.1.width
      ∙ (c.output_args-mirror.ensures.bad m.0.mirror m.1.mirror)));
}
