use Rattle.mirror_model.proofs.Views.{nothing_is_lawful, union_is_lawful}
use Rattle.mirror_model.proofs.ItemStrings.{plus_is_lawful}
use Rattle.mirror_model.proofs.HeadNotes.{heads_have_edges}
use Rattle.mirror_model.proofs.laws.views.lawful_law.Goals as goal

pub returns-clause-item : goal.returns-clause-item
returns-clause-item c = plus_is_lawful

pub returns-clause-views : goal.returns-clause-views
returns-clause-views c = union_is_lawful

pub returns-clause-nothing : goal.returns-clause-nothing
returns-clause-nothing c = nothing_is_lawful

pub returns-clause-heads : goal.returns-clause-heads
returns-clause-heads c = heads_have_edges
