use Rattle.std.proofs.Common.{refl}
use Rattle.mirror_model.proofs.items.Bytes.new.Goals as goal

pub returns : goal.returns
returns c = refl
