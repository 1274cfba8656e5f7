use Rattle.std.proofs.Common.{◌∙◌}
use Rattle.program_words.proofs.parts.log_of.Goals as goal

pub returns : goal.returns
returns c = record {
  good = λ g.
      let s1 = c.word_of-keys.ensures.part.good g in
      let s0 = c.word_of-origin.ensures.part.good s1.0 in
      (s0.0, record { origin = s0.1; keys = s1.1 });
  bad = λ m is.
      c.word_of-keys.ensures.part.bad m.keys.now is.keys
      ∙ c.word_of-origin.ensures.part.bad m.origin.now is.origin;
}
