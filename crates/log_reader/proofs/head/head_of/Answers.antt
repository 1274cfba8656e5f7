use Rattle.std.proofs.Common.{sym, ◌∙◌}
use Rattle.std.proofs.lemmas.Bool.{false≢true}
use Rattle.log_reader.proofs.HeadNotes.{other_origin}
use Rattle.log_reader.proofs.head.head_of.Goals as goal

pub returns-else-is_of_log-clause-none : goal.returns-else-is_of_log-clause-none
returns-else-is_of_log-clause-none c = λ size root head.
    let checkpoint = c.in-Some.checkpoint in
    other_origin c.args.bytes.now c.args.origin.now size root head checkpoint.origin checkpoint.size checkpoint.root
    (rw c.in-Some.is at c.in_ok-checkpoint.ensures.found)
    (λ same. false≢true (sym c.if-is_of_log.false ∙ c.is_of-is_of_log.ensures.1 same))

pub returns-in-None-clause-none : goal.returns-in-None-clause-none
returns-in-None-clause-none c = λ size root head.
    (rw c.in-None.is at c.in_ok-checkpoint.ensures.none) c.args.origin.now size root head
