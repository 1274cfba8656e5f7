use Rattle.std.proofs.Common.{refl}
use Rattle.copy_follow.proofs.run.Run.add.Goals as goal

pub returns-in_ok-copy-in-Brought-clause-copy : goal.returns-in_ok-copy-in-Brought-clause-copy
returns-in_ok-copy-in-Brought-clause-copy c =
    rw c.in-Brought.is (record {
      now = c.in_ok-copy-in-Brought.field-0;
      is = refl;
      same = c.in_ok-copy-in-Brought.ensures;
    })

pub returns-in_ok-copy-in-Brought-clause-again : goal.returns-in_ok-copy-in-Brought-clause-again
returns-in_ok-copy-in-Brought-clause-again c = rw c.in-Brought.is (c.grow.ensures.again, c.grow.ensures.other)
