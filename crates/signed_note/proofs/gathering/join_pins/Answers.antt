use Rattle.std.proofs.Common.{◌∙◌, sym}
use Rattle.std.proofs.lemmas.Result.{IfOk-from_err}
use Rattle.signed_note.proofs.JoinedPins.{all_joined, joins_pins}
use Rattle.signed_note.proofs.gathering.join_pins.Goals as goal

pub loop-one-preserved : goal.loop-one-preserved
loop-one-preserved c = (
  tt,
  tt,
  joins_pins c.loop-one.keys.items c.add_pins.new.keys.items c.loop-one.one-iterator.rest.items c.next.new.self.rest.items
      c.in_ok-keys.keys.items c.into_iter-one-iterator.result.rest.items c.in-Some.one c.in-Some.ensures.steps.0
      c.in_ok-add_pins.ensures c.loop-one.invariant.2,
)

pub returns : goal.returns
returns c =
    all_joined c.loop-one.keys.items c.loop-one.one-iterator.rest.items c.in_ok-keys.keys.items
    c.in_ok-keys.pins.items c.args.lines.items (sym c.loop-one.one-iterator.rest.ok.0 ∙ c.in-None.ensures.steps.0)
    c.in_ok-keys.ensures (rw c.into_iter-one-iterator.ensures.into_iter_gives.0 at c.loop-one.invariant.2)

pub returns-in_err-add_pins : goal.returns-in_err-add_pins
returns-in_err-add_pins c = let exit = c.from_residual-in_err-add_pins in IfOk-from_err exit.result _ exit.ensures.0
