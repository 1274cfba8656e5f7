use Rattle.signed_note.proofs.key_words.first_line.Goals as goal

pub returns-in_err-at-clause-found : goal.returns-in_err-at-clause-found
returns-in_err-at-clause-found c = rw c.from_residual.ensures tt

pub returns-in_err-at-clause-first : goal.returns-in_err-at-clause-first
returns-in_err-at-clause-first c = rw c.from_residual.ensures tt
