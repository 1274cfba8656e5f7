use Rattle.mirror_model.proofs.HeadNotes.{head_once}
use Rattle.mirror_model.proofs.laws.views.head_law.Goals as goal

pub returns : goal.returns
returns c = head_once
