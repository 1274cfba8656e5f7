use Rattle.std.proofs.Common.{◌∷◌, ◌∙◌, ap, sym}
use Rattle.signed_note.proofs.JoinedPins.{all_gathered, gathered_of, gathers_pin, gathers_secret}
use Rattle.signed_note.proofs.gathering.gather_all.Goals as goal

pub loop-line-preserved-in-Continue-branch-2 : goal.loop-line-preserved-in-Continue-branch-2
loop-line-preserved-in-Continue-branch-2 c = (
  tt,
  tt,
  gathers_secret c.loop-line.secrets.items c.push.new.self.items c.loop-line.pins.items c.loop-line.line-iterator.rest.items
      c.next.new.self.rest.items c.into_iter-line-iterator.result.rest.items c.in-Hmac.key
      (c.in-Some.ensures.steps.0 ∙ ap (λ l. l ∷ c.next.new.self.rest.items) c.in-Hmac.is) c.in_ok-push-in-Hmac.ensures.items
      c.loop-line.invariant.2,
)

pub loop-line-preserved : goal.loop-line-preserved
loop-line-preserved c = (
  tt,
  tt,
  gathers_pin c.loop-line.secrets.items c.loop-line.pins.items c.gather.new.gathered.items
      c.loop-line.line-iterator.rest.items c.next.new.self.rest.items c.into_iter-line-iterator.result.rest.items
      c.in-Pin.texts (c.in-Some.ensures.steps.0 ∙ ap (λ l. l ∷ c.next.new.self.rest.items) c.in-Pin.is)
      c.in_ok-gather-in-Pin.ensures c.loop-line.invariant.2,
)

pub returns : goal.returns
returns c =
    gathered_of c.loop-line.secrets.items c.loop-line.pins.items c.args.lines.items c.sort_by.new.self.items
    c.sort_by.ensures.permutation
    (all_gathered c.loop-line.secrets.items c.loop-line.pins.items c.loop-line.line-iterator.rest.items
    c.sort_by.new.self.items (sym c.loop-line.line-iterator.rest.ok.0 ∙ c.in-None.ensures.steps.0)
    (rw c.into_iter-line-iterator.ensures.into_iter_gives.0 at c.loop-line.invariant.2))
