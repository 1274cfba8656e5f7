use Rattle.std.proofs.Common.{refl}
use Rattle.mirror_model.proofs.items.Rows.new.Goals as goal

pub returns : goal.returns
returns c = refl
