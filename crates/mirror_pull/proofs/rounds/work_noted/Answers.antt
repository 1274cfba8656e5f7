use Rattle.mirror_pull.proofs.rounds.work_noted.Goals as goal

pub returns-clause-gains : goal.returns-clause-gains
returns-clause-gains g c = rw c.note_held.ensures c.work_round-worked.ensures.gains

pub returns-clause-replied : goal.returns-clause-replied
returns-clause-replied g c = rw c.note_held.ensures c.work_round-worked.ensures.replied

pub returns-clause-honest : goal.returns-clause-honest
returns-clause-honest g c = rw c.note_held.ensures c.work_round-worked.ensures.honest
