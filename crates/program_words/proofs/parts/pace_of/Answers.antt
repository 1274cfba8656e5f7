use Rattle.std.proofs.Common.{◌∙◌}
use Rattle.program_words.proofs.parts.pace_of.Goals as goal

pub returns : goal.returns
returns c = record {
  good = λ g.
      let s1 = c.wait_of-wait.ensures.good g in
      let s0 = c.ahead_of-ahead.ensures.good s1.0 in
      (s0.0, record { ahead = s0.1; wait = s1.1 });
  bad = λ pace is.
      c.wait_of-wait.ensures.bad pace.wait is.wait ∙ c.ahead_of-ahead.ensures.bad pace.ahead is.ahead;
}
