use Rattle.std.proofs.Common.{◌∙◌}
use Rattle.program_words.proofs.parts.state_args.Goals as goal

pub returns : goal.returns
returns c = record {
  good = λ g.
      let s1 = c.word_of-state.ensures.part.good g in
      let s0 = c.log_of-log.ensures.good s1.0 in
      (s0.0, record { log = s0.1; state = s1.1 });
  bad = λ m is.
      c.word_of-state.ensures.part.bad m.state.now is.state
      ∙ c.log_of-log.ensures.bad m.log is.log;
}
