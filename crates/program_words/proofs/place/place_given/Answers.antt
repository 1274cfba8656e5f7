use Rattle.std.proofs.Common.{◌∙◌, subst, sym}
use Rattle.program_words.specs.Spelling.{IsPlace}
use Rattle.program_words.proofs.place.place_given.Goals as goal

pub returns : goal.returns
returns c = record {
  good = λ g.
      let s2 = c.place_or_bad.ensures.good g in
      let s1 = c.word_of-word.ensures.part.good s2.0 in
      let s0 = c.word_of-kind.ensures.part.good s1.0 in (
        s0.0,
        record {
          value = c.word_of-kind.result.now;
          given = s0.1;
          is_such = record { value = c.word_of-word.result.now; given = s1.1; is_such = s2.1 };
        },
      );
  bad = λ place is.
      let w = is.is_such in
      let kind = c.word_of-kind.ensures.one is.value is.given in
      let word = c.word_of-word.ensures.one w.value w.given in
      let both = subst (λ k. IsPlace k c.word_of-word.result.now place) (sym kind)
      (subst (λ t. IsPlace is.value t place) (sym word) w.is_such) in
      c.place_or_bad.ensures.bad place both
      ∙ (c.word_of-word.ensures.part.bad w.value w.given ∙ c.word_of-kind.ensures.part.bad is.value is.given);
}
