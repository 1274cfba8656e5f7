use Rattle.mirror_files.specs.Content.{IsStateString}
use Rattle.mirror_files.proofs.ListedItems.{all_fails, all_goes_on, all_passes}
use Rattle.std.proofs.Common.{refl}
use Rattle.mirror_files.proofs.order.all_state_strings.Goals as goal

pub returns-then-not-is_state_string : goal.returns-then-not-is_state_string
returns-then-not-is_state_string c =
    all_fails IsStateString c.args.strings.now c.loop-string.string-index _ c.loop-string-test.true
    c.is_state_string.result c.is_state_string.ensures c.if-not-is_state_string.true

pub loop-string-preserved : goal.loop-string-preserved
loop-string-preserved c =
    all_goes_on IsStateString c.args.strings.now c.loop-string.string-index _ c.loop-string-test.true
    c.is_state_string.result c.is_state_string.ensures c.if-not-is_state_string.false c.loop-string.invariant

pub returns : goal.returns
returns c = (
  λ t. all_passes IsStateString c.args.strings.now c.loop-string.string-index c.loop-string-test.false
      c.loop-string.invariant,
  λ a. refl,
)
