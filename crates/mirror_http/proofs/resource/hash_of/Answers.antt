use Rattle.std.proofs.Common.{◌≡◌, ℕ, List, sym, ap, ◌∙◌}
use Rattle.hex.specs.Hex.{encode_lower}
use Rattle.mirror_http.proofs.OneResource.{decoded}
use Rattle.mirror_http.proofs.resource.hash_of.Goals as goal

pub returns-in-Err-clause-none : goal.returns-in-Err-clause-none
returns-in-Err-clause-none c =
    λ hash is. let e = sym c.in-Err.is ∙ (c.from_hex.ensures ∙ decoded c.args.digits.now hash is) in
    absurd (cc e)

pub returns-else-is_spelled-clause-none : goal.returns-else-is_spelled-clause-none
returns-else-is_spelled-clause-none c = λ hash is.
    let e = sym c.in-Ok.is ∙ (c.from_hex.ensures ∙ decoded c.args.digits.now hash is) in
    let same : hash ≡ c.in-Ok.hash = cc e in
    let yes = c.is_spelled.ensures.spelled.1 (is.is_hex ∙ ap (λ (h : List ℕ). encode_lower h) same) in
    absurd (cc (yes, c.if-is_spelled.false))
