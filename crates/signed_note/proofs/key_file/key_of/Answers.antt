use Rattle.std.proofs.Common.{◌≡◌, ◌++◌, ◌∷◌, refl, sym, ap, ◌∙◌, List, ℕ}
use Rattle.std.specs.Prelude.{codes}
use Rattle.signed_note.specs.Names.{space}
use Rattle.signed_note.proofs.KeyLines.{key_line_text, from_secret, from_pin}
use Rattle.signed_note.proofs.key_file.key_of.Goals as goal

pub returns-in_default : goal.returns-in_default
returns-in_default c = (refl, λ key h. c.in_default.ensures.cases.0 (key_line_text c.args.line.now key h))

pub returns-in-Some : goal.returns-in-Some
returns-in-Some c =
    let cases = c.in-Some.ensures.cases in
    let whole : c.args.line.now ≡ codes "hmac" ++ space ∷ c.in-Some.rest.now =
    sym c.in-Ok.ensures.cases.0 ∙ (cases.1.1 ∙ ap (λ (x : List ℕ). codes "hmac" ++ space ∷ x) (sym cases.2)) in
    from_secret c.args.line.now c.in-Some.rest.now c.args.number c.secret_of.result whole c.secret_of.ensures

pub returns-in-Some-strip_prefix : goal.returns-in-Some-strip_prefix
returns-in-Some-strip_prefix c =
    let cases = c.in-Some-strip_prefix.ensures.cases in
    let whole : c.args.line.now ≡ codes "pin" ++ space ∷ c.in-Some-strip_prefix.rest.now =
    sym c.in-Ok.ensures.cases.0 ∙ (cases.1.1 ∙ ap (λ (x : List ℕ). codes "pin" ++ space ∷ x) (sym cases.2)) in
    from_pin c.args.line.now c.in-Some-strip_prefix.rest.now c.args.number c.pin_of.result whole c.pin_of.ensures
