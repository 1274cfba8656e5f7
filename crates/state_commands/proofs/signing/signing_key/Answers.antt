use Rattle.std.proofs.Common.{arith, sym, ◌∙◌, ◌≡◌, Option, Some, None, List, [], ◌∷◌, length, ap, refl}
use Rattle.signed_note.specs.KeyKinds.{Secret, Pins}
use Rattle.signed_note.specs.declared.key_line.KeyLine.{KeyLine}
use Rattle.signed_note.specs.declared.key_line.KeyLine.TheVariants.{Hmac, Pin}
use Rattle.state_commands.specs.Signing.{first_secret}
use Rattle.state_commands.proofs.signing.signing_key.Goals as goal

none_left : (lines : List KeyLine) → length lines ≡ 0 → ◌≡◌ {A = Option Secret} None (first_secret lines)
none_left [] len = refl
none_left (line ∷ lines) len = absurd (omega arith)

pin_first : (line : KeyLine) (texts : Pins) (lines rest : List KeyLine) → line ≡ Pin texts → lines ≡ line ∷ rest →
    first_secret rest ≡ first_secret lines
pin_first line texts lines rest is all = sym (ap first_secret (all ∙ ap (λ x. x ∷ rest) is))

hmac_first : (line : KeyLine) (key : Secret) (lines rest : List KeyLine) → line ≡ Hmac key → lines ≡ line ∷ rest →
    Some key ≡ first_secret lines
hmac_first line key lines rest is all = sym (ap first_secret (all ∙ ap (λ x. x ∷ rest) is))

pub loop-line-init : goal.loop-line-init
loop-line-init c = (tt, tt, ap first_secret c.into_iter-line-iterator.ensures.into_iter_gives.0)

pub loop-line-preserved-in-Pin : goal.loop-line-preserved-in-Pin
loop-line-preserved-in-Pin c = (
  tt,
  tt,
  pin_first c.in-Some.line c.in-Pin.field-0 c.loop-line.line-iterator.rest.items c.next.new.self.rest.items
      c.in-Pin.is c.in-Some.ensures.steps.0 ∙ c.loop-line.invariant.2,
)

pub returns : goal.returns
returns c = none_left c.loop-line.line-iterator.rest.items
    (sym c.loop-line.line-iterator.rest.ok.0 ∙ c.in-None.ensures.steps.0) ∙ c.loop-line.invariant.2

pub returns-in-Hmac : goal.returns-in-Hmac
returns-in-Hmac c = hmac_first c.in-Some.line c.in-Hmac.key c.loop-line.line-iterator.rest.items
    c.next.new.self.rest.items c.in-Hmac.is c.in-Some.ensures.steps.0 ∙ c.loop-line.invariant.2
