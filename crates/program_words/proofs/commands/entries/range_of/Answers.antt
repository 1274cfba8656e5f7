use Rattle.std.proofs.Common.{◌∙◌}
use Rattle.program_words.proofs.commands.entries.range_of.Goals as goal

pub returns : goal.returns
returns c = record {
  good = λ g.
      let s1 = c.size_of-to.ensures.good g in
      let s0 = c.size_of-from.ensures.good s1.0 in
      (s0.0, record { start = s0.1; end = s1.1; base64 = c.has_flag-base64.ensures });
  bad = λ m is.
      c.size_of-to.ensures.bad m.to is.end
      ∙ c.size_of-from.ensures.bad m.from is.start;
}
