use Rattle.std.proofs.Common.{sym, ◌∙◌, refl}
use Rattle.signed_note.proofs.Trust.{opens_is}
use Rattle.signed_note.proofs.opening.open_note.Goals as goal

pub returns-then-opens : goal.returns-then-opens
returns-then-opens g c =
    let is = opens_is _ _ _ c.args.keys.now c.opens.result (rw (c.text.ensures, c.lines.ensures) at c.opens.ensures) in
    (λ e. is.0 c.if-opens.true, λ o. refl)

pub returns-else-opens : goal.returns-else-opens
returns-else-opens g c =
    let is = opens_is _ _ _ c.args.keys.now c.opens.result (rw (c.text.ensures, c.lines.ensures) at c.opens.ensures) in
    (λ e. absurd cc, λ o. sym c.if-opens.false ∙ is.1 o)
