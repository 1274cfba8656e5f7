use Rattle.program_library.proofs.given.run_words_over.Goals as goal

pub returns-clause-answer : goal.returns-clause-answer
returns-clause-answer g c = c.run_words_on.ensures.answer.2

pub returns-clause-status : goal.returns-clause-status
returns-clause-status g c = c.run_words_on.ensures.status

pub returns-clause-quiet : goal.returns-clause-quiet
returns-clause-quiet g c = c.run_words_on.ensures.quiet
