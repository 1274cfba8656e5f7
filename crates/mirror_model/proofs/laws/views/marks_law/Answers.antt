use Rattle.mirror_model.proofs.Views.{marks_stay}
use Rattle.mirror_model.proofs.Remembering.{whole_is_mark}
use Rattle.mirror_model.proofs.laws.views.marks_law.Goals as goal

pub returns-clause-whole : goal.returns-clause-whole
returns-clause-whole c = whole_is_mark

pub returns-clause-stay : goal.returns-clause-stay
returns-clause-stay c = marks_stay
