use Rattle.mirror_model.proofs.Listing.{notes_are_listed_once, heads_are_listed_once, forks_are_listed_once}
use Rattle.mirror_model.proofs.Listing.{missing_is_listed_once, front_is_listed_once}
use Rattle.mirror_model.proofs.laws.lists.lists_law.Goals as goal

pub returns-clause-heads : goal.returns-clause-heads
returns-clause-heads c = heads_are_listed_once

pub returns-clause-forks : goal.returns-clause-forks
returns-clause-forks c = forks_are_listed_once

pub returns-clause-missing : goal.returns-clause-missing
returns-clause-missing c = missing_is_listed_once

pub returns-clause-front : goal.returns-clause-front
returns-clause-front c = front_is_listed_once

pub returns-clause-notes : goal.returns-clause-notes
returns-clause-notes c = notes_are_listed_once
