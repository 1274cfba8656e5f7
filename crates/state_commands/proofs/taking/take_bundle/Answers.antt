use Rattle.std.proofs.Common.{refl}
use Rattle.mirror_model.specs.declared.items.Item.TheVariants as item
use Rattle.state_commands.proofs.taking.take_bundle.Goals as goal

pub returns-in-Ok-take_bundle : goal.returns-in-Ok-take_bundle
returns-in-Ok-take_bundle g c keys =
    record {
      item = item.Bundle c.args.width c.deref.result.now;
      held = (refl, rw c.deref.ensures.value c.in-Ok.ensures.bytes);
      takes = c.in-Ok-take_bundle.ensures.takes keys;
      judged = c.in-Ok-take_bundle.ensures.judged;
    }

pub returns : goal.returns
returns g c keys =
    record {
      item = item.Bundle c.args.width c.deref.result.now;
      held = (refl, rw c.deref.ensures.value c.in-Ok.ensures.bytes);
      takes = c.in-Err-take_bundle.ensures.takes keys;
      judged = c.in-Err-take_bundle.ensures.judged;
    }
