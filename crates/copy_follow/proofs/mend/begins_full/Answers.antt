use Rattle.std.proofs.Common.{List, ℕ, subst}
use Rattle.log_reader.specs.Holding.{GoesOn}
use Rattle.copy_reader.proofs.Cuts.{cut_goes}
use Rattle.copy_follow.proofs.mend.begins_full.Goals as goal

pub returns-in-Some : goal.returns-in-Some
returns-in-Some c = λ yes.
    subst (λ (b : List ℕ). GoesOn c.args.path.now b c.args.full.now) (c.is_same.ensures.0 yes)
    (cut_goes c.args.path.now c.args.full.now c.in-Some.part.now c.in-Some.ensures.some)
