use Rattle.std.proofs.Common.{Ok, refl}
use Rattle.state_commands.proofs.Placing.{nothing_read}
use Rattle.state_commands.proofs.Keeping.{pulled_on, pulled_within}
use Rattle.state_commands.proofs.pull.pull_kept.Goals as goal

pub returns-in_default-clause-early : goal.returns-in_default-clause-early
returns-in_default-clause-early g c = (
  Ok tt,
  record { gained = λ kept other. absurd (other refl); nothing = λ kept same. refl; other = λ kept. refl },
)

pub returns-in-Err-clause-early : goal.returns-in-Err-clause-early
returns-in-Err-clause-early g c = rw c.new.ensures (
  c.keep_gained.result,
  c.keep_gained.ensures c.args.mirror.now.view c.in-Ok.ensures.holds
      (pulled_within g.H.TreeHash.digest _ c.args.mirror.now.view _ c.in-Err.fault
      (rw c.in-Err.is at c.from_place-answer.ensures.pulls)),
)

pub returns-in-Ok-answer-clause-gained : goal.returns-in-Ok-answer-clause-gained
returns-in-Ok-answer-clause-gained g c = λ none.
    c.has_gained-gained.ensures.same c.args.mirror.now.view c.in-Ok.ensures.holds
    (pulled_on g.H.TreeHash.digest _ c.args.mirror.now.view _ c.in-Ok-answer.pulled
    (rw c.in-Ok-answer.is at c.from_place-answer.ensures.pulls)) none

pub returns-in_default-clause-reads : goal.returns-in_default-clause-reads
returns-in_default-clause-reads g c =
    rw c.no_memory.ensures (nothing_read g.H.TreeHash.digest _ c.args.words.now.place c.args.mirror.now.view c.args.mirror.now.view)
