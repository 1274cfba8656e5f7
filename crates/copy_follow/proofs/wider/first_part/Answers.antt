use Rattle.copy_places.proofs.Cutting.{cut_first}
use Rattle.copy_follow.proofs.wider.first_part.Goals as goal

pub returns-in-Some : goal.returns-in-Some
returns-in-Some c = cut_first c.args.path.now c.args.wider c.args.bytes.now c.in-Some.part.now c.in-Some.ensures.some
