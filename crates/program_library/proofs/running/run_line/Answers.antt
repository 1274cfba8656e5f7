use Rattle.std.proofs.Common.{ℕ, List, subst, sym}
use Rattle.program_library.specs.Runs.{JoinsLines}
use Rattle.program_library.proofs.Keyed.{keys_found, keys_refused, nothing_done, words_refused}
use Rattle.program_library.proofs.running.run_line.Goals as goal

pub run_keyed-requires : goal.run_keyed-requires
run_keyed-requires g c = rw c.in-Ok-asked.is at c.requires

pub returns-in-Ok-asked-clause-runs : goal.returns-in-Ok-asked-clause-runs
returns-in-Ok-asked-clause-runs g c = λ words is. c.run_keyed.ensures.runs words (rw c.in-Ok-asked.is at is.command)
    (keys_found _ words _ _ _ c.deref.ensures.value is.keys c.in-Ok.ensures.0)
    (subst (λ (b : List ℕ). JoinsLines b c.in-Ok.lines.items) (sym c.deref.ensures.value) c.in-Ok.ensures.1)

pub returns-in-Ok-clause-runs : goal.returns-in-Ok-clause-runs
returns-in-Ok-clause-runs g c = λ words is. rw c.refused.ensures
    (words_refused _ _ _ words _ c.in-Ok.bytes.items c.in-Ok.lines.items c.in-Err-asked.fault is.keys
    (rw c.in-Err-asked.is at is.command) c.in-Ok.ensures)

pub returns-in-Ok-clause-ends : goal.returns-in-Ok-clause-ends
returns-in-Ok-clause-ends g c = nothing_done _ _

pub returns-clause-runs : goal.returns-clause-runs
returns-clause-runs g c = λ words is. keys_refused _ _ _ words _ _ is.keys c.in-Err.ensures

pub returns-clause-ends : goal.returns-clause-ends
returns-clause-ends g c = nothing_done _ _
