use Rattle.mirror_model.proofs.Reporting.{heads_are_reported_once, forks_are_reported_once, served_is_said_once}
use Rattle.mirror_model.proofs.Reporting.{status_is_one_text, forks_are_one_text, missing_is_one_text}
use Rattle.mirror_model.proofs.laws.reports.reports_law.Goals as goal

pub returns-clause-heads : goal.returns-clause-heads
returns-clause-heads c = heads_are_reported_once

pub returns-clause-forks : goal.returns-clause-forks
returns-clause-forks c = forks_are_reported_once

pub returns-clause-served : goal.returns-clause-served
returns-clause-served c = served_is_said_once

pub returns-clause-status_text : goal.returns-clause-status_text
returns-clause-status_text c = status_is_one_text

pub returns-clause-forks_text : goal.returns-clause-forks_text
returns-clause-forks_text c = forks_are_one_text

pub returns-clause-missing_text : goal.returns-clause-missing_text
returns-clause-missing_text c = missing_is_one_text
