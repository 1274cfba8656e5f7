use Rattle.copy_follow.proofs.HonestHeads.{noted_places_lead, scripts_make_honest_runs}
use Rattle.copy_follow.proofs.script_laws.noted_place_law.Goals as goal

pub returns-clause-leads : goal.returns-clause-leads
returns-clause-leads g c = noted_places_lead g.S.Source.may_answer

pub returns-clause-runs : goal.returns-clause-runs
returns-clause-runs g c = scripts_make_honest_runs g.S.Source.may_answer
