use Rattle.std.proofs.Common.{rules, ◌≡◌}
use Rattle.program_library.proofs.given.run_words_on.Goals as goal

pub returns-clause-answer : goal.returns-clause-answer
returns-clause-answer g c =
    let input : c.input-1.given.0 ≡ c.run_given-answer.new.env.input.now = search rules in
    let output : c.output-1.given.0 ≡ c.run_given-answer.new.env.output.now = search rules in (
      c.run_given-answer.new.env.files,
      c.run_given-answer.new.env.folders,
      rw input (rw output c.run_given-answer.ensures.answer),
    )

pub returns-clause-quiet : goal.returns-clause-quiet
returns-clause-quiet g c =
    let same : c.output-1.given.0 ≡ c.run_given-answer.new.env.output.now = search rules in
    rw same c.run_given-answer.ensures.quiet
