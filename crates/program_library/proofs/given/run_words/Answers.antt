use Rattle.program_library.proofs.given.run_words.Goals as goal

pub returns-clause-answer : goal.returns-clause-answer
returns-clause-answer g c = c.run_words_over.ensures.answer

pub returns-clause-status : goal.returns-clause-status
returns-clause-status g c = c.run_words_over.ensures.status

pub returns-clause-quiet : goal.returns-clause-quiet
returns-clause-quiet g c = c.run_words_over.ensures.quiet
