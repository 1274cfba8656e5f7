use Rattle.mirror_files.proofs.ListedItems.{before_tells}
use Rattle.mirror_files.proofs.order.is_before.Goals as goal

pub returns : goal.returns
returns c = before_tells c.is_lt.result c.cmp.result _ c.is_lt.ensures c.cmp.ensures
